pub mod Text
pub mod Lines
pub mod Area
pub mod Templates
pub mod Summary
