pub mod Layers
pub mod Replies
