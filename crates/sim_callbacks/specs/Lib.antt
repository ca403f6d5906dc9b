-- what contracts see
pub mod Chains
pub mod Keeping
-- a search
pub mod Places
