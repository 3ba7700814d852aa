pub mod Drawn
pub mod Ports
