pub mod PlaceLaws
mod OutlineLaws
mod CandidateLaws
pub mod PinLaws
