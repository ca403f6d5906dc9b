mod ByLetter
mod Digits
mod Entries
mod FirstWords
pub mod Fronts
pub mod Pieces
mod Places
pub mod SameWords
