-- look-ups
pub mod Finding
pub mod Searching
-- an entry more, or another one
pub mod Changing
-- the index as a whole
pub mod Keeping
