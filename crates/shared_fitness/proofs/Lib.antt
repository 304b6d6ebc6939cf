-- What the proofs of the functions cite.
pub mod Bottoms
pub mod Pairs
pub mod Stacks
