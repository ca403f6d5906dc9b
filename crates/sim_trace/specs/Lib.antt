pub mod SummaryTexts
pub mod WatchTexts
pub mod Texts
pub mod Begins
pub mod Leadings
