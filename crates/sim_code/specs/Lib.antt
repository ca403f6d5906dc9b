pub mod Readings
pub mod StatementGroups
pub mod LineGroups
pub mod TakenTexts
