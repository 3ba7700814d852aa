pub mod CellAnswers
pub mod DecidingLaws
mod ShapeLaws
mod PinAnswers
mod OutlineAnswers
mod AlignAnswers
pub mod TextAnswers
mod RowAnswers
mod TableAnswers
mod LeafAnswers
pub mod KitLaws
pub mod RomLeafLaws
