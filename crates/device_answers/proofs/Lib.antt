mod LinkDecisionLaws
mod CellListLaws
mod MemberDecisionLaws
mod SoundDecisionLaws
pub mod DrawnThereLaws
mod PairThereLaws
mod RoleThereLaws
pub mod DeviceAnswerLaws
