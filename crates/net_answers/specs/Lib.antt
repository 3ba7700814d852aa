pub mod NetAnswers
