pub mod Memories
pub mod Widths
pub mod Encloses
