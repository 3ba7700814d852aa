pub mod Record
pub mod Bytes
pub mod Values
pub mod Part
pub mod Reading
pub mod Spelling
pub mod Writing
