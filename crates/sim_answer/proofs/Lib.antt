pub mod AnswersToTexts
pub mod Ending
pub mod Numbering
pub mod ReadRuns
pub mod Replications
pub mod Summing
