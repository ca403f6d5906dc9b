pub mod WholeAnswers
