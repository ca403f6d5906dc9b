pub mod HostedAnswers
pub mod HostedRuns
pub mod Openings
pub mod Stepping
