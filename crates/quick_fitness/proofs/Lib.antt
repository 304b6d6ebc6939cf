-- What the proofs of the functions cite.
pub mod Bits
pub mod OneSize
pub mod Plain
