pub mod Drawing
pub mod Spacing
