pub mod Entries
pub mod EntryOrder
pub mod Counts
pub mod Parting
pub mod Lines
pub mod LineSteps
