-- What each change of events and holders keeps.
pub mod Held
pub mod Following
pub mod Soundness
pub mod Spares
pub mod NewEvents
pub mod MadeScheduled
pub mod Judging
pub mod Shutting
pub mod Unholding
pub mod TakenResumptions
