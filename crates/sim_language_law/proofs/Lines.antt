-- A text without a fault, line by line, and what a line adds, by its form.
pub mod Walking
pub mod Faultless
pub mod CleanLines
pub mod LineByLine
pub mod LinesSoFar
pub mod LineForms
pub mod Additions
pub mod AdditionsByForm
pub mod GrowingScenarios
