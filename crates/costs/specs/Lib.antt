pub mod Limits
pub mod Costs
pub mod Numbers
pub mod Ranked
pub mod NumbersLemmas
pub mod Ranks
