pub mod LawfulRuns
pub mod ReachedEvents
