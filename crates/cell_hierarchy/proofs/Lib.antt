pub mod StepLaws
pub mod MovedLaws
pub mod BelowLaws
pub mod ChainLaws
mod NearLaws
pub mod ThingLaws
pub mod NameLaws
mod OwnLaws
pub mod CellLaws
mod PartLaws
mod GrowsLaws
pub mod ComposeLaws
mod SortedLaws
mod WalkLaws
mod WalkedElementLaws
mod TopLaws
pub mod AlongLaws
pub mod AsciiLaws
mod FarLaws
mod CountLaws
mod FlattenLaws
pub mod OneListsLaws
pub mod OneFaultLaws
pub mod CountsBelowLaws
pub mod ReferenceLaws
pub mod CountedCellLaws
pub mod PathLaws
pub mod OneSetLaws
pub mod DistinctLaws
pub mod TotalLaws
pub mod ListedLaws
pub mod BoundedBelowLaws
pub mod FlatLaws
pub mod FlatShapeLaws
pub mod FlatNearLaws
