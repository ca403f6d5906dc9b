pub mod Keys
pub mod Removals
pub mod GrantOrders
pub mod NewNumbers
pub mod LastElements
pub mod MachineQueues
pub mod DeskChanges
pub mod RememberedRequests
