-- Requests, whose slot they take, and their queues.
pub mod RequestKeys
pub mod GrantedSlots
pub mod SortedQueues
pub mod KeptUses
pub mod MadeInterruptions
pub mod CancelledWaiters
pub mod ReleasedUsers
