pub mod TabulateLaws
pub mod NumberLaws
pub mod PortLaws
pub mod BitLaws
pub mod SubcktLaws
