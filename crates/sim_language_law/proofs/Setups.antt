-- Setup, journal and posters fit.
pub mod FittingAdditions
pub mod FittingSetup
pub mod EntriesByForm
pub mod FittingEntries
pub mod FittingInWhole
