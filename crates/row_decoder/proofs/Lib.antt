pub mod TapLaws
mod LineLaws
pub mod KindLaws
