-- K7: the dispatcher, and what it does of all words.
pub mod Dispatch
pub mod DispatchSteps
