pub mod DecisionLaws
pub mod ListedLaws
pub mod OrderLaws
mod WayLaws
mod ItemLaws
mod SlabThereLaws
mod DrawnLaws
mod ChainThereLaws
mod TotalThereLaws
mod FlatThereLaws
mod FarThereLaws
pub mod FlatAnswerLaws
