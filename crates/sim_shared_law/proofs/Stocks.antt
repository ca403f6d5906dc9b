-- Puts and gets that are tried.
pub mod AlikeQueues
pub mod TakenItems
pub mod TriedTanks
pub mod TriedShelves
pub mod TriedResources
pub mod ServedResources
pub mod ServingTries
