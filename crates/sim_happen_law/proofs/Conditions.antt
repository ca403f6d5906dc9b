-- Conditions: members, weights, checks and values.
pub mod Memberships
pub mod TakingChecks
pub mod Weights
pub mod HoldingEach
pub mod NewConditions
pub mod Joining
pub mod MadeConditions
pub mod Gathering
