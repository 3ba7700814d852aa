pub mod Numbers
pub mod Leaves
pub mod Pins
pub mod Names
pub mod Row
pub mod Banks
pub mod Formula
pub mod Main
