pub mod CellLaws
pub mod LayerLaws
pub mod MemberLaws
mod GrownLaws
mod ConnectionLaws
mod CutLaws
pub mod NumberLaws
mod OrderLaws
mod GroupLaws
mod ChannelLaws
mod ChannelSetLaws
mod ChannelGroupLaws
mod SideLaws
mod OverLaws
mod BoxLaws
mod TerminalLaws
mod NameLaws
mod DeviceLaws
mod SameLayerLaws
