pub mod Additions
pub mod PartPins
