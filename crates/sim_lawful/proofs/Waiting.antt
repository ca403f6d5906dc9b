-- Tries, requests, puts and gets.
pub mod ServedWaiters
pub mod TriedWaiters
pub mod JoinedQueues
pub mod PolledCount
pub mod PolledCancel
pub mod PolledMove
pub mod PolledRelease
