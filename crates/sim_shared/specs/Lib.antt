-- how resources open
pub mod Opening
-- where an event waits
pub mod Naming
-- what is lent
pub mod Lending
