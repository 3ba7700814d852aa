pub mod TokenLaws
pub mod StatementLaws
pub mod TreeLaws
pub mod EdgeLaws
