pub mod CellLaws
pub mod CommonLaws
pub mod PartLaws
pub mod EdgeLaws
pub mod SplitLaws
pub mod SingleLaws
