-- Operations on resources.
pub mod CancelledEvents
pub mod WaitingRequests
pub mod Moves
pub mod AskedResources
