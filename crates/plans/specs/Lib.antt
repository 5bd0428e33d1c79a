pub mod Limits
pub mod Plans
pub mod Steps
pub mod Theorems
pub mod Samples
