pub mod Rails
pub mod LaidMacro
