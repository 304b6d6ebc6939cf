pub mod Rows
pub mod Notation
pub mod Reach
pub mod Table
pub mod Strides
pub mod HeldCells
pub mod Moves
pub mod Tests
