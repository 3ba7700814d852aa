mod SideLaws
mod EdgeLaws
pub mod RowLaws
