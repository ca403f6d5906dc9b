-- Conditions that are made, checked and built.
pub mod BuiltValues
pub mod CheckedConditions
pub mod CalledCheck
pub mod UnregisteredChecks
pub mod CalledBuild
pub mod JoinedConditions
pub mod NewConditions
pub mod MadeConditions
pub mod PolledConditions
