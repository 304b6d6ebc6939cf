-- The theorem on what a number asks for.
pub mod Numbers
