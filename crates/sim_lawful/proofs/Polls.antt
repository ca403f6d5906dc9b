-- Operations on events and processes, and what the active process is told.
pub mod KnownEvents
pub mod ToldAnswers
pub mod WaitedEvents
pub mod PolledLog
pub mod PolledNewEvent
pub mod PolledTimeout
pub mod PolledWait
pub mod PolledSucceed
pub mod PolledChain
pub mod PolledHas
pub mod PlainBodies
pub mod SpawnedPlaces
pub mod PolledSpawn
pub mod PolledInterrupt
