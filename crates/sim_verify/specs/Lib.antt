pub mod TraceLines
pub mod Givens
pub mod Verdicts
pub mod VerdictTexts
pub mod Checkers
