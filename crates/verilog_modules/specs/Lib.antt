pub mod Tree
pub mod Tokens
pub mod Grammar
pub mod Names
pub mod Meaning
pub mod Legal
