pub mod OneMacro
pub mod OneBuild
