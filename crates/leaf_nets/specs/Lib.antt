pub mod Numbers
pub mod RightPins
pub mod Loose
pub mod Leaves
