-- events that wait
pub mod Leaving
-- tries
pub mod Serving
pub mod Looking
-- containers
pub mod Amounts
-- items and stores
pub mod Given
pub mod Choosing
pub mod Numbering
pub mod Ranking
pub mod Storing
pub mod Trying
pub mod Handing
