-- Process lines, process kinds, and the variables and statements of each process.
pub mod ProcessHeads
pub mod KindsOfHeads
pub mod ProcessVariables
pub mod CodeOfKinds
pub mod ProcessesSoFar
