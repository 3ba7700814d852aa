pub mod Sides
pub mod FloorplanNumbers
pub mod Lowered
pub mod Bars
pub mod Trunks
pub mod LeafSides
pub mod LayoutOfKit
pub mod Demanded
