pub mod Told
pub mod Performances
