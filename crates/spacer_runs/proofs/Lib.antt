pub mod SpacerRuns
