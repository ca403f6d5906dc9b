mod Places
pub mod PostersAtWork
