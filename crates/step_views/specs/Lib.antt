pub mod Asked
pub mod ByPhase
