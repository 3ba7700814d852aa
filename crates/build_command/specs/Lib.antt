pub mod Words
pub mod Demonstration
pub mod Design
pub mod RomDesign
pub mod Made
pub mod Held
pub mod Run
pub mod OneDesign
