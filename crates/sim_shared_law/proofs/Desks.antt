-- Who is served, and whose slot is taken.
pub mod LeavingWaiters
pub mod ServedWaiters
pub mod TriedDesks
pub mod GrantedSlots
pub mod PreemptedSlots
