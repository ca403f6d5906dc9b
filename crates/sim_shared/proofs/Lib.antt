-- resources as they open
pub mod OpenedResources
