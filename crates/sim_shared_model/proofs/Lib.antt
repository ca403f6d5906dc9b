-- lists: what is left of them, and how they are sorted
pub mod LeftOut
pub mod AmongEvents
pub mod StableSorts
-- desks
pub mod Keys
pub mod WaitersInOrder
pub mod Attempting
-- containers and stores
pub mod Apart
