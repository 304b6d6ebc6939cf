pub mod Words
pub mod Largest
pub mod Moving
