-- what contracts see of desks, containers and stores
pub mod DeskOf
pub mod Attempts
pub mod StoreQueues
pub mod Tanks
pub mod Shelves
-- what contracts see of a resource of any kind, and of all in their places
pub mod AnyShared
pub mod Resources
pub mod SharedOf
pub mod Measuring
pub mod ShowsAll
pub mod Making
pub mod Waiting
pub mod Using
pub mod Joining
pub mod Granting
-- how it is kept
pub mod Places
pub mod Serving
pub mod Sorting
