pub mod KitMacros
