-- K2: a sub's cells are a ring for its rows.
pub mod Ring
pub mod Walk
pub mod HeldCells
