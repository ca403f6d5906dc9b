pub mod Shown
pub mod Endings
pub mod Calls
