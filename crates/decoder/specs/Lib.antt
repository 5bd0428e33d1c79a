pub mod Records
pub mod Sheets
pub mod Faults
