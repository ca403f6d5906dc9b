-- what contracts see
pub mod States
-- how it is kept
pub mod Slots
pub mod Stores
