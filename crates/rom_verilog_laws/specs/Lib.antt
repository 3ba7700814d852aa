pub mod Rom
pub mod Behaviour
pub mod Laws
