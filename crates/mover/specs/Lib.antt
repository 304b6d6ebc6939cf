-- What the mover writes of what it read.
pub mod MovesInput
