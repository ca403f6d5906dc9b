-- What a text that is read says as a whole, and what a well-formed scenario has.
pub mod FittingSoFar
pub mod FittingTexts
pub mod ReadTexts
pub mod WellFormedTexts
pub mod WellFormedParts
pub mod SetupParts
pub mod PostsOfScenarios
