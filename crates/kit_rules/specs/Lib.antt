pub mod First
pub mod WireRules
pub mod Joints
pub mod Layout
pub mod Reach
