pub mod WholeLaws
pub mod UnusedLaws
