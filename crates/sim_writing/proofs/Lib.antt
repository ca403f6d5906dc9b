pub mod HasWrittenOn
pub mod Unheard
pub mod Wanting
pub mod WrittenUnits
pub mod WrittenEnds
