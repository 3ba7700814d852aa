-- That no free shape of a leaf instance in a memory touches one outside of it.
pub mod Told
pub mod Apart
