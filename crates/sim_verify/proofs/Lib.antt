pub mod FedLines
pub mod FirstLines
pub mod FirstDifference
pub mod WhyLines
pub mod Wrong
pub mod Taken
pub mod VerdictLines
