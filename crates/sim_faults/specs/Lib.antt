pub mod InnerBlocks
pub mod AboveOf
pub mod FormKinds
