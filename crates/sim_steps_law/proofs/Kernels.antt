-- What is kept and what becomes of a kernel.
pub mod Keeping
pub mod Records
pub mod Accounting
pub mod Becoming
pub mod Running
pub mod KeptNames
pub mod Rooms
pub mod Made
pub mod TouchedPlaces
