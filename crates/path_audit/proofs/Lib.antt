pub mod Proving
pub mod Lasts
