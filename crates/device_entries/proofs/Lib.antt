pub mod OrderLaws
pub mod CountLaws
pub mod PartingLaws
pub mod LineLaws
