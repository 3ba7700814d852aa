pub mod Digits
pub mod Windows
pub mod FreeName
pub mod Makers
pub mod Judged
pub mod Good
pub mod Shares
pub mod Quick
