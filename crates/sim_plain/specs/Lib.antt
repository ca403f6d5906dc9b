pub mod PlainTurns
pub mod PlainLaw
