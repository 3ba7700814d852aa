pub mod Near
pub mod Counts
pub mod Floorplans
pub mod Writable
pub mod Supplies
pub mod Differ
pub mod Complete
pub mod Library
