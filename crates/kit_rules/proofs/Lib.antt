pub mod PlaceLaws
pub mod FindLaws
pub mod KitLaws
pub mod ReachLaws
