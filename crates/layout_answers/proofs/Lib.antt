pub mod LayoutAnswerLaws
