-- Operations on events, conditions and processes.
pub mod Polls
pub mod QuietPolls
pub mod Signed
pub mod Waiting
pub mod AskedConditions
pub mod Events
pub mod Interruptions
pub mod Naming
pub mod AskedPlaces
