pub mod ReachLaws
pub mod LeastNameLaws
pub mod AnswerLaws
