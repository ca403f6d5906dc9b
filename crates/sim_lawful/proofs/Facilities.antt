-- Other facilities in the place of a state's.
pub mod ChangedFacilities
pub mod ChangedQueues
