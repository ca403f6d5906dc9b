mod CommandWords
pub mod Endings
