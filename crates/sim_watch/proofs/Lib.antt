mod Sums
pub mod Watching
pub mod Moving
pub mod Changing
pub mod Telling
pub mod Beginning
pub mod Openings
pub mod Steps
