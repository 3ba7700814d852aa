pub mod KitAnswers
pub mod RomLeafAnswers
