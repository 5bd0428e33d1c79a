pub mod Tellings
pub mod Lives
