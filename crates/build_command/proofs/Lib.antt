mod HeldLaws
mod StepLaws
mod LayoutLaws
mod WriteLaws
mod RunLaws
mod NameLaws
mod GoodLaws
mod DemoByteLaws
pub mod OneDesignLaws
mod OneRomLaws
pub mod OneWorkLaws
