pub mod Demands
pub mod Fits
pub mod Outline
pub mod FirstLayers
pub mod Candidates
pub mod Wanted
pub mod Pins
