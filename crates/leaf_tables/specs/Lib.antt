pub mod Parts
pub mod Leaves
pub mod Steps
pub mod Alignment
pub mod Faults
pub mod Kits
pub mod NearLeaf
