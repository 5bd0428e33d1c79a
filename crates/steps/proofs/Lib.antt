pub mod Fences
pub mod Laid
pub mod Traces
pub mod StepsLeft
