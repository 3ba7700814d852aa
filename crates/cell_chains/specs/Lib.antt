pub mod Instances
pub mod Chains
pub mod Hierarchy
pub mod Numbering
pub mod Listing
pub mod Ordered
