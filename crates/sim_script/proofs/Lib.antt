pub mod Beginnings
pub mod Places
pub mod Filling
pub mod Marks
pub mod Remembering
pub mod Polling
