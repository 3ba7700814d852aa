pub mod MakerLaws
