pub mod Whole
pub mod Unused
