pub mod Binding
pub mod Bound
pub mod BoundPlaces
pub mod LowerCase
