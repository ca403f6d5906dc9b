-- Resources in their places, and what is shown.
pub mod ResourcePlaces
pub mod ReleasedSlots
pub mod ShownCounts
pub mod ShownMeasures
pub mod KeptMeasures
pub mod FollowingFacilities
