pub mod Extremes
pub mod Solos
pub mod Stretches
pub mod Sizes
pub mod Tests
