-- Lawful states: steps and runs.
pub mod MadeEvents
pub mod PassingTime
pub mod WholeSteps
pub mod WholeRuns
