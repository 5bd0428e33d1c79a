pub mod Firsts
pub mod Quadrangles
