pub mod Leaving
pub mod Roots
pub mod Ending
