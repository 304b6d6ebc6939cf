-- `Tally` says what is counted over events, `Bound` which bound they have.
pub mod Tally
pub mod Bound
