-- How the account of a run is kept from step to step.
pub mod Kept
