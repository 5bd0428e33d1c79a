pub mod Fronts
pub mod Orders
pub mod Widths
pub mod Limits
pub mod Samples
