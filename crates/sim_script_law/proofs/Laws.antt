-- The law of a body, setups that fit, and the only unit that scripts make.
pub mod ScriptLaw
pub mod GivenPlaces
pub mod SetupFits
pub mod Readiness
pub mod OnlySteps
