pub mod RowTaps
pub mod Lines
pub mod Gates
