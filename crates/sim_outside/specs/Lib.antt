pub mod Causes
pub mod Gathering
pub mod Memory
pub mod Reads
pub mod Standard
pub mod Writes
