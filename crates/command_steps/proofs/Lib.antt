pub mod OutcomeLaws
pub mod EndLaws
pub mod PrintLaws
pub mod WriteLaws
pub mod OnceLaws
