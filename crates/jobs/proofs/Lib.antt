pub mod Climbing
pub mod Running
