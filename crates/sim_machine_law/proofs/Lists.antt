-- Lists.
pub mod BestElements
