pub mod HeightLaws
pub mod PartLaws
pub mod SideLaws
pub mod PairedLaws
pub mod KindLaws
pub mod BarLaws
