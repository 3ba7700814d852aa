pub mod Lines
pub mod Microns
pub mod Lef
pub mod Boxes
pub mod Verilog
