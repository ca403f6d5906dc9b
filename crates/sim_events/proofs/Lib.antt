-- slabs
pub mod Slabs
-- the store: what one slot's change leaves of all others
pub mod Nodes
pub mod Parts
pub mod Storing
-- the table: events by number
pub mod Placing
pub mod KeptLists
pub mod Rewriting
pub mod Forgetting
pub mod Extending
pub mod Outcomes
pub mod Absent
