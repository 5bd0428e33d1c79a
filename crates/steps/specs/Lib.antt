pub mod Cuts
pub mod PlanProofs
pub mod Left
