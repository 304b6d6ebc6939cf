-- Sums over the subs, counts over rows, and what both kinds say with them. No machine is known here.
pub mod Sums
pub mod Wraps
pub mod Visits
pub mod Passes
pub mod Stamps
pub mod Held
pub mod Find
