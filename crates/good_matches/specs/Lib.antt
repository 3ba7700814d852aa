pub mod Window
pub mod Matches
