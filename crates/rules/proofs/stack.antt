-- The stack's invariant, and why each of its steps keeps it.
pub mod Inv
pub mod Corridor
pub mod Others
pub mod Moves
pub mod Window
pub mod Pass
pub mod Read
pub mod Check
pub mod Commit
pub mod CommitPut
pub mod Distance
pub mod CommitTake
pub mod Shift
pub mod Confirm
pub mod Safe
pub mod Turn
