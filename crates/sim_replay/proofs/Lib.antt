-- batches that are split
pub mod Shares
pub mod Sections
pub mod Entries
pub mod Texts
pub mod Runs
