-- Callbacks that are called.
pub mod Calls
pub mod CalledConditions
