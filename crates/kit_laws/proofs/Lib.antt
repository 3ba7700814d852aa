mod EachLaws
mod OneCellLaws
mod StageLaws
mod OneLeafLaws
mod OneAlignmentLaws
pub mod OneKitLaws
pub mod OneRomLaws
