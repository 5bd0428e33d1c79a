pub mod Scales
pub mod Meant
pub mod Squares
