pub mod Commands
pub mod Statuses
pub mod Endings
pub mod Exits
