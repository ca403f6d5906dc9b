pub mod RunFaults
pub mod WrittenRuns
