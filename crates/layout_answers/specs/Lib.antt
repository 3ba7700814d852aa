pub mod LayoutAnswers
