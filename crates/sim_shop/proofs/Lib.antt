pub mod Numerals
pub mod Pieces
pub mod LinesOfTexts
pub mod NumberedLines
pub mod ShopIsRead
