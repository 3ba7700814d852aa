pub mod ContactLaws
pub mod ReferenceLaws
pub mod ChainLaws
pub mod RowChainLaws
pub mod WireChainLaws
