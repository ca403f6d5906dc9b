-- Processes that are made.
pub mod Starting
pub mod Beginning
pub mod SpawnedProcesses
pub mod Arrivals
