pub mod Kept
pub mod StatementGroups
