pub mod ColumnLaws
pub mod KindLaws
pub mod NumberLaws
pub mod BottomLaws
pub mod TopLaws
pub mod TapLaws
pub mod BankTapLaws
pub mod TrackLaws
