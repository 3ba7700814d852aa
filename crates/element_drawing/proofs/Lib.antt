pub mod OrderLaws
pub mod BoxLaws
pub mod LabelLaws
pub mod ShapeLaws
pub mod NearLaws
