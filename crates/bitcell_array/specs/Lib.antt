pub mod ArrayPart
pub mod Columns
