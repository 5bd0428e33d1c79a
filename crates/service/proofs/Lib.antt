pub mod Lengths
pub mod Servings
