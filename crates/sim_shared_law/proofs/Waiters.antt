-- Who waits, and one more that waits.
pub mod WaitingEvents
pub mod CancelledEvents
pub mod MadeEvents
pub mod JoinedWaiters
pub mod JoinedEvents
pub mod MadeAndTried
pub mod RequestsAndAmounts
