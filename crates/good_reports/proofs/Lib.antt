pub mod OverhangLaws
pub mod ShapeLaws
pub mod ReportLaws
