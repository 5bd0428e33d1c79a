pub mod Refusals
pub mod Calls
pub mod Openings
pub mod Lives
pub mod Runs
