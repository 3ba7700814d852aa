pub mod Structures
pub mod Flat
pub mod Libraries
pub mod LabelOrder
pub mod Finish
pub mod CellList
pub mod Additions
pub mod Writable
