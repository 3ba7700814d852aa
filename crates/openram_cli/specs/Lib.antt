pub mod Inspection
pub mod CommandWords
pub mod Inputs
pub mod Answer
pub mod OneAnswer
pub mod Run
pub mod GoodKits
pub mod Outcomes
