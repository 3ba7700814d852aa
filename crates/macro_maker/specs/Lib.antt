pub mod Assembled
pub mod OneAssembled
