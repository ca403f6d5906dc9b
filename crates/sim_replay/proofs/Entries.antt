-- The entries of a journal as they are written, and read again.
pub mod WrittenNumbers
pub mod WordsOfLines
pub mod NamedPorts
pub mod EntryLines
pub mod CleanEntries
