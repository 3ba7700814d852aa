pub mod ListLaws
pub mod NumberingLaws
pub mod RangeLaws
pub mod CountLaws
pub mod NameLaws
pub mod LeastLaws
mod JoinedLaws
pub mod DistanceLaws
mod GapLaws
pub mod CoverLaws
pub mod ContainingLaws
pub mod PlaceLaws
pub mod AddsLaws
pub mod OneListLaws
pub mod GatheringLaws
pub mod ShapeOrderLaws
pub mod NamePlaceLaws
