pub mod Rails
pub mod Highest
