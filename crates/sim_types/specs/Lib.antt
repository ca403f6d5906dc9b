pub mod Few
pub mod Keys
pub mod Limits
pub mod Scenarios
pub mod Setups
pub mod Throws
