pub mod Turned
pub mod Canonical
pub mod Written
pub mod Bounds
pub mod NewName
