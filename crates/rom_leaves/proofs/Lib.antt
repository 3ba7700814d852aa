pub mod RomLeafLaws
