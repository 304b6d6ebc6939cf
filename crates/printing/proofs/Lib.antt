-- What is quoted of a listing, by what is known of a file's events (crates/tally, proofs/Events).
pub mod Quotes
pub mod Example
