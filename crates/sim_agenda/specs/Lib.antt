pub mod Comparisons
pub mod Heaps
pub mod Series
pub mod Windows
