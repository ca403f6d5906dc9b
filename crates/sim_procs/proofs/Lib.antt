pub mod LawfulScopes
pub mod OpenScopes
pub mod Places
pub mod Records
