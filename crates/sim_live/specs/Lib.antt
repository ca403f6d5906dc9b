pub mod Journals
pub mod LiveRuns
pub mod LiveTexts
pub mod LiveAnswers
pub mod Starting
