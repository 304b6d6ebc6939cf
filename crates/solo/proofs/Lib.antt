-- That operations come to an end: how many steps each may still make, and a worker left by itself. What a queue's put makes of its steps is in crates/rules
-- (progress/QueuePut), beside the rules that it is about.
pub mod Types
pub mod QueueTakePass
pub mod QueueTakeEnd
pub mod QueueSteps
pub mod StackDue
pub mod StackLeft
pub mod StackPass
pub mod StackShift
pub mod Law
pub mod Moved
pub mod Solo
pub mod Forms
pub mod Theorem
