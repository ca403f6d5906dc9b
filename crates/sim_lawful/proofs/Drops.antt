-- A process that is dropped.
pub mod StrippedControls
pub mod DroppedProcess
pub mod DroppedBodies
pub mod DroppedWaiting
pub mod LeftCapacities
pub mod PolledDrop
