pub mod Memory
pub mod Runs
pub mod Behaviour
pub mod Laws
