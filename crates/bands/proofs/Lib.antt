-- What the proofs of the functions cite.
pub mod Rows
pub mod Bottoms
pub mod Walks
pub mod JoinedBands
pub mod Whole
pub mod Widths
pub mod Counts
pub mod Extremes
