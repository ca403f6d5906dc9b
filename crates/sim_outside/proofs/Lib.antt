pub mod Fronts
pub mod HeldBack
pub mod Taking
pub mod Written
