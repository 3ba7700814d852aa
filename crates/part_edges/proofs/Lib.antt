mod OrderLaws
mod PlaceLaws
mod SideLaws
pub mod PinLaws
