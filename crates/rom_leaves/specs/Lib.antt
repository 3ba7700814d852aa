pub mod Shared
pub mod RomLeaves
pub mod Laws
