pub mod WiredMacro
pub mod Texts
