-- The stack's figures (specs/Newer), from the closest to the highest. No machine is known here.
pub mod Figures
pub mod Exactness
