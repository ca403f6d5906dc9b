pub mod Lists
pub mod Untaken
pub mod NewPosters
mod Closed
mod Deliveries
mod Draining
mod InOrder
mod Joining
mod TakenNext
