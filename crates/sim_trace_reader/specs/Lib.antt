pub mod Readings
pub mod LineTexts
