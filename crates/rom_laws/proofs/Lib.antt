pub mod RomCircuit
pub mod Mirror
pub mod Resting
pub mod Extended
pub mod RomRuns
pub mod Selects
pub mod ExampleLaw
