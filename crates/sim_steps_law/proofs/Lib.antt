-- what is kept and what becomes of a kernel
pub mod Kernels
-- who holds which event
pub mod Holders
-- callbacks that are called
pub mod Callbacks
-- operations on events, conditions and processes
pub mod Polls
-- processes that end or are dropped
pub mod Ends
-- operations on resources
pub mod Resources
-- scopes that are entered and left
pub mod Scopes
-- processes that are made
pub mod Starts
