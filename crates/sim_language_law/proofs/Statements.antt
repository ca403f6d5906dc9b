-- Statements fit their process kinds.
pub mod FittingOperands
pub mod FittingParts
pub mod FittingByForm
pub mod LinkedScripts
