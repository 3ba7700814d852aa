pub mod Keywords
pub mod Config
pub mod Fault
pub mod Keys
pub mod Configuration
pub mod Plan
pub mod PlanNumbers
pub mod View
