pub mod FlatAnswers
