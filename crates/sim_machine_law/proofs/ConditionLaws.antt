-- What conditions count and weigh.
pub mod ConditionValues
pub mod CountedMembers
pub mod PlainWeights
