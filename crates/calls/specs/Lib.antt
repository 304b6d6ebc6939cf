pub mod Asking
pub mod Called
