pub mod Alike
pub mod Plain
