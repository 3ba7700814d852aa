pub mod Chains
pub mod Contact
pub mod Stands
pub mod Marks
