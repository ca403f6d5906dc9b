-- The facts beside, from change to change.
pub mod FollowingCalendars
pub mod FollowingFacilities
pub mod FollowingStates
pub mod FollowingSteps
