pub mod Bounds
pub mod NamesTell
pub mod Readings
pub mod ChoiceLaws
pub mod TextLaws
pub mod InstanceLists
pub mod NameLaws
