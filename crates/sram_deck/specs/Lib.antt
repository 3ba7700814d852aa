pub mod Deck
pub mod Sample
pub mod FixedSample
