pub mod Places
pub mod Levels
pub mod PowerTable
pub mod FilledRows
