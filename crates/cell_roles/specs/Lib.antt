pub mod Acts
pub mod LeafRoles
pub mod Roles
pub mod RowTexts
pub mod Tables
