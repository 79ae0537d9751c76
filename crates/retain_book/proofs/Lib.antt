pub mod Counts
pub mod Roots
