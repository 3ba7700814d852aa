pub mod DocumentLaws
pub mod StepLaws
pub mod TurnLaws
pub mod UnknownLaws
