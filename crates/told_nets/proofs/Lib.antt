pub mod PointLaws
pub mod TellLaws
pub mod FreeLaws
