pub mod PathLaws
pub mod OrderLaws
mod SetLaws
mod MarkLaws
mod ReachLaws
mod StageLaws
mod TrailLaws
mod SearchLaws
mod HeightLaws
mod ShortLaws
mod WaitLaws
mod EntryLaws
mod EnterLaws
mod LeaveLaws
mod BackLaws
