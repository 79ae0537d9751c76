pub mod Faults
pub mod Outcomes
pub mod Stored
pub mod Ways
pub mod Judging
