pub mod BarApartLaws
pub mod FirstBoxLaws
pub mod BarColumnLaws
pub mod TapCellLaws
pub mod TapItemLaws
pub mod ThirdBoxLaws
