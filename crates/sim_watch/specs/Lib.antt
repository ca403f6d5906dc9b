pub mod Watched
pub mod Following
