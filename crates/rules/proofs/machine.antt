-- The abstract machine, what holds of it whatever the kind, and what a kind has to show.
pub mod Machine
pub mod Moved
pub mod Phases
pub mod Good
pub mod Calls
pub mod Turns
pub mod Slots
pub mod Does
pub mod Ways
