pub mod Seen
pub mod Anchor
