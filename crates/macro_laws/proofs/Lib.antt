mod SortedLaws
mod RouteLaws
mod LibraryLaws
mod LayoutLaws
pub mod OneMacroLaws
pub mod OnePartLaws
pub mod OneBuildLaws
