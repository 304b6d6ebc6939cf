-- What the proofs of the functions cite; in `Pieces` the theorems.
pub mod Stretches
pub mod Pieces
pub mod Accounts
pub mod Ends
