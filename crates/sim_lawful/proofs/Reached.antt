-- Events that are kept.
pub mod KeptReasons
pub mod KeptReached
pub mod KeptAsked
