pub mod shared
pub mod Walking
pub mod Storing
pub mod Kept
pub mod Notes
pub mod Outcomes
