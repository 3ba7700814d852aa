pub mod RomRun
pub mod Laws
pub mod Example
