pub mod Column
pub mod Pins
pub mod DataPart
