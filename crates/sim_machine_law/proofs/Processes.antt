-- Processes that end or are interrupted, and their scopes.
pub mod ToldScopes
pub mod MadeInterruption
pub mod OpenedScopes
pub mod LeftScopes
pub mod EndedProcesses
