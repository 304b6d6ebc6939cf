pub mod Area
pub mod Behind
pub mod Decimal
pub mod Lines
pub mod Templates
pub mod Summaries
