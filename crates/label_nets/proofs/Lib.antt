pub mod AnchorLaws
