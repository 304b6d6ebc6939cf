-- The queue's invariant, and why each of its steps keeps it.
pub mod Inv
pub mod Moves
pub mod Raise
pub mod Drop
pub mod Empty
pub mod Full
pub mod View
pub mod Put
pub mod Take
pub mod CommitPut
pub mod CommitTake
pub mod Safe
pub mod Turn
