pub mod OnePlace
pub mod OneScope
pub mod Travellers
pub mod Customers
pub mod CustomerLaw
