-- K6 and K8: a move between editions, what is said of it, and what holds of every run with moves among its calls.
pub mod Move
pub mod Turnaround
pub mod Widening
