pub mod QueueOrder
pub mod GrantOrder
pub mod SoundDesks
pub mod PreemptedOf
