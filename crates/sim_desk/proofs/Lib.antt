pub mod Arriving
pub mod Replicating
pub mod RowsOfRun
pub mod TextsWithTraces
pub mod Telling
pub mod LongTexts
pub mod Models
