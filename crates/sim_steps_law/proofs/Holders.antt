-- Who holds which event.
pub mod Holding
pub mod CountedHolders
pub mod HeldPlaces
pub mod BodyPlaces
pub mod NamedHolders
