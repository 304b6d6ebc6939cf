pub mod Seen
pub mod Numbers
pub mod Asked
pub mod Moves
