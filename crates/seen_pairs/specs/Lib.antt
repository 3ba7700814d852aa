pub mod Counterpart
pub mod Window
pub mod Pair
pub mod There
