pub mod Near
pub mod BankTaps
pub mod Outputs
pub mod StatedWires
pub mod BankPart
pub mod BankEdges
