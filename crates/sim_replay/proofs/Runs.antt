-- Runs of a scenario with another journal.
pub mod OverScripts
pub mod ReplayedRuns
