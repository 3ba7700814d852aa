pub mod LogicPart
pub mod BankGates
pub mod ControlGates
