pub mod Spelled
pub mod Cells
pub mod Held
pub mod Contents
