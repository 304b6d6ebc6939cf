pub mod LongRuns
