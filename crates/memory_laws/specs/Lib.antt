pub mod Phase
pub mod NetlistCircuit
pub mod Run
pub mod Laws
pub mod NumberArray
pub mod Examples
pub mod Numbers
