pub mod Headline
pub mod Answers
