-- nodes and their chains
pub mod Links
pub mod Relinking
-- what a search finds
pub mod Finding
-- what is taken, freed or passed on
pub mod Freeing
pub mod Passing
