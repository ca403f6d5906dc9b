-- What is shown of a calendar.
pub mod Signed
pub mod KeptPlaces
pub mod SeenShown
pub mod TakenCallbacks
pub mod Shown
