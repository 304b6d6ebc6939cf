-- That operations come to an end: what a queue's worker may have left to do, and a put of its step by step. The rest, and a worker left by itself, is crates/solo.
pub mod Clean
pub mod Steps
pub mod Confirm
pub mod QueueSeen
pub mod QueueLeft
pub mod QueueResult
pub mod QueuePut
