pub mod Few
pub mod Row
