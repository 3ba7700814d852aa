pub mod Allowed
pub mod Kept
