pub mod KernelOf
pub mod Opening
pub mod Accounting
pub mod Holding
pub mod Stepping
pub mod Arriving
pub mod Walks
pub mod Walking
