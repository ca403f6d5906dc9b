-- The code and the variables of a script.
pub mod Walking
pub mod KindsOfScenarios
pub mod Starts
pub mod Variables
pub mod WithinVariables
pub mod Needs
pub mod Frames
pub mod Standing
