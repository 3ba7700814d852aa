pub mod Stay
pub mod Whole
