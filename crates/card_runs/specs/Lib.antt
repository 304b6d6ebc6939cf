pub mod Cards
pub mod Tests
