-- What containers and stores serve and give, and what is held at a resource.
pub mod ServedFronts
pub mod FoundItems
pub mod TriedStores
pub mod ServedStores
pub mod HeldNumbers
