pub mod AreaLaws
pub mod MappedLaws
pub mod NetLaws
mod SetLaws
mod JoinLaws
mod MarkLaws
mod RunLaws
mod PairLaws
mod SearchLaws
mod RootLaws
mod NumberLaws
pub mod ExtractLaws
mod EntryLaws
mod ShapeNetLaws
mod PinLaws
mod KeyLaws
pub mod KeyTextLaws
mod MixedLaws
mod ConflictLaws
mod MatchingLaws
mod PathLaws
mod StrangerLaws
pub mod DifferenceLaws
pub mod OneDifferenceLaws
pub mod OneNetLaws
