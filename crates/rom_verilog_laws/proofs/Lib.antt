pub mod SpellLaws
pub mod StartLaws
pub mod NamedLaws
pub mod RunLaws
pub mod TextLaws
