-- K7: how many counted steps of a queue's run may go without a final answer.
pub mod Types
pub mod Owed
pub mod Kept
pub mod Acts
pub mod Debts
pub mod Over
pub mod Stocked
pub mod Lead
pub mod Past
pub mod Bounded
pub mod Calm
pub mod Within
pub mod Theorem
pub mod Dispatch
pub mod Moves
