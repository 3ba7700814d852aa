pub mod OneCell
pub mod OneKit
pub mod OneRom
