pub mod Built
pub mod Causes
pub mod Checks
pub mod Counts
pub mod Memory
pub mod Verilog
pub mod Written
