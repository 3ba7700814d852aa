pub mod TurnedSlabs
pub mod TurnedElements
pub mod SameChains
pub mod SameSets
pub mod WrittenLaws
