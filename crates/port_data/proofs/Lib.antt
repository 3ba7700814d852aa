mod LeafLaws
mod PortLaws
mod FormulaLaws
mod PinLaws
pub mod MeetLaws
pub mod ChannelLaws
pub mod KitLaws
mod TrackCountLaws
pub mod NetLaws
pub mod SenseLaws
pub mod TopLaws
pub mod ExitLaws
mod ColumnLaws
pub mod RoutedLaws
mod DataLaws
pub mod RefusedLaws
