mod AboveBounds
mod AddedParts
mod ReadingLines
pub mod CleanLines
pub mod FirstFew
pub mod GivenVariables
pub mod JournalNumbers
pub mod KeptClasses
pub mod LastPoster
pub mod Linking
pub mod TakenTexts
