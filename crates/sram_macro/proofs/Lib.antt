mod NameLaws
pub mod ExtentLaws
mod LibraryLaws
mod SignalLaws
pub mod LayoutLaws
pub mod KitFacts
pub mod HeldFacts
pub mod LabelFacts
pub mod AssemblyLaws
pub mod MainChannelLaws
pub mod StatedLaws
pub mod MemoryLaws
