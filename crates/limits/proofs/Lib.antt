-- What the proofs of the functions cite.
pub mod Half
pub mod Shipped
