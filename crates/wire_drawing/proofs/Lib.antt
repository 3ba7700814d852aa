pub mod SpacingLaws
pub mod DrawingLaws
