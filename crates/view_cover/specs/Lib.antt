pub mod View
pub mod Bits
pub mod Cover
