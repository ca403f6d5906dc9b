-- Processes that end or are dropped.
pub mod Ending
pub mod EndedProcesses
pub mod DroppedProcesses
pub mod DroppableProcesses
