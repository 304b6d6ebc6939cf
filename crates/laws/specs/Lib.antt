pub mod Choice
pub mod Tests
pub mod Wrap
pub mod Looks
