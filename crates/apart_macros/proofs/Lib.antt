pub mod LooseLaws
pub mod ItemLaws
pub mod LedLaws
pub mod OwnWireLaws
pub mod ApartLaws
