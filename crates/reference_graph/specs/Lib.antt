pub mod Reaches
pub mod BottomUp
pub mod Height
pub mod Spread
pub mod Search
pub mod Waits
