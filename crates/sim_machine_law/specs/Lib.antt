pub mod Courses
pub mod Desks
pub mod Stocks
pub mod Members
pub mod NamedEvents
