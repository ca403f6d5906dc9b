-- what the contracts of this crate say
-- how the code keeps it
pub mod Items
pub mod RankedItems
pub mod Stocks
pub mod Queues
pub mod Finding
pub mod Sound
pub mod TriedGets
