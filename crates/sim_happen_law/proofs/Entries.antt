-- The entry that is due.
pub mod Due
pub mod PoppedEntries
