pub mod AllowedLaws
pub mod KeptLaws
