-- Words beyond the needed ones.
pub mod Untouched
