pub mod Known
pub mod Absent
pub mod Moved
pub mod Opened
