pub mod SameFlat
