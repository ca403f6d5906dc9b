pub mod AlikeBodies
pub mod AlikeStates
pub mod AlikeOperations
pub mod AlikeRuns
