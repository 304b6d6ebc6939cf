-- What the proofs of the functions cite.
pub mod Eleven
pub mod Idle
pub mod Phases
pub mod Places
pub mod Seen
