pub mod PlaceLaws
mod BindLaws
mod FoundLaws
pub mod OneBindingLaws
