-- What the loop is proved to do.
pub mod Ran
