pub mod LowLaws
pub mod StepLaws
pub mod DesignLaws
pub mod RomDesignLaws
