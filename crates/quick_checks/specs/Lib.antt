pub mod Suffice
