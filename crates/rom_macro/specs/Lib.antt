pub mod Macro
