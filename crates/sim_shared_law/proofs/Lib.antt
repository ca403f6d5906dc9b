-- resources in their places, and what is shown
pub mod Shown
-- who waits, and one more that waits
pub mod Waiters
-- who is served, and whose slot is taken
pub mod Desks
-- puts and gets that are tried
pub mod Stocks
