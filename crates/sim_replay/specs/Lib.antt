pub mod Sections
pub mod Seeds
