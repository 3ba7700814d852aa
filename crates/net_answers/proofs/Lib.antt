pub mod ToldLaws
pub mod NumberedLaws
pub mod DifferThereLaws
