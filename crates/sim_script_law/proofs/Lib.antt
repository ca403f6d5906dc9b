-- the code and the variables of a script
pub mod Scripts
-- what a turn does
pub mod Turns
-- the law of a body, and setups that fit
pub mod Laws
