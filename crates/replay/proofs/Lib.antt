-- `Files` has the theorem, on how a file begins.
pub mod Begins
pub mod Files
