-- the opening
pub mod StartingAll
pub mod Stopping
pub mod OpeningHolds
-- the units
pub mod UnitSteps
pub mod QuietUnits
pub mod ArrivalMeasures
pub mod Arrivals
-- walks
pub mod RestingMachines
pub mod NextUnits
pub mod WalkedCourses
pub mod WalkEnds
