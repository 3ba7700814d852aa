mod FindLaws
mod LeafLaws
mod StepLaws
pub mod AlignLaws
pub mod RoleLaws
