-- What the proofs of the functions cite.
pub mod Bodies
pub mod Heads
