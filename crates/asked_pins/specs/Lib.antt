pub mod Demanded
pub mod Layouts
pub mod Channels
