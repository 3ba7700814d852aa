pub mod NetlistLaws
pub mod LayoutLaws
pub mod AnswerLaws
pub mod CountLaws
mod CheckLaws
mod FaultLaws
