-- A run of every stack with two workers or more in which a take passes over as many newer items as the exact figure allows: so no
-- closer bound holds. From one call to the whole script.
pub mod Types
pub mod Run
pub mod Rules
pub mod Steps
pub mod Walks
pub mod Commits
pub mod Sweeps
pub mod Rise
pub mod Scene
pub mod Opening
pub mod Rises
pub mod Ending
pub mod Taken
pub mod Reached
