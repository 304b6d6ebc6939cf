pub mod Segments
pub mod HeldCells
