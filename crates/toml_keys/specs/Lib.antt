pub mod Fault
pub mod Keys
pub mod Section
pub mod Unknown
pub mod Document
