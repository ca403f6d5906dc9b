pub mod Variables
pub mod Bank
pub mod Shop
pub mod Wash
pub mod Models
