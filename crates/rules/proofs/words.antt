-- The words follow the machine.
pub mod Lists
pub mod Writes
pub mod Says
pub mod Told
pub mod Places
pub mod Fit
pub mod After
pub mod Landed
pub mod Stores
pub mod Stays
pub mod Follows
pub mod Made
