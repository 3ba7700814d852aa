pub mod Columns
pub mod Fault
pub mod OneFault
pub mod Point
pub mod Table
