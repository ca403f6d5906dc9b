pub mod LineOf
pub mod OneWord
pub mod Spans
pub mod NamesAhead
pub mod WordKinds
