pub mod Closing
pub mod Delivery
pub mod Lists
pub mod QueueEnds
