pub mod ListingLaws
pub mod DrawnChannelLaws
pub mod LaidKitLaws
pub mod KitMacroLaws
