-- Pools that read alike; and that strides 0 and 1 are one: what a call stores and reads lies apart from the settings, so that a store into them passes by
-- every call.
pub mod Types
pub mod Checked
pub mod Alike
pub mod Stores
pub mod Calls
pub mod Theorem
