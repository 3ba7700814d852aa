pub mod TakeLaws
pub mod BoundLaws
pub mod LabelLaws
pub mod PinLaws
pub mod FreeLaws
pub mod LeafLaws
pub mod KitLaws
