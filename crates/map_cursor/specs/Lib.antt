pub mod Shown
pub mod Visits
