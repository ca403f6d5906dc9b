-- What is taken from the whole text: its process lines, and the names that its lines declare.
pub mod SaidAnywhere
pub mod FirstWords
pub mod RightLines
pub mod DeclaringLines
pub mod TakenFromTexts
pub mod TextsAmong
pub mod EventsAhead
