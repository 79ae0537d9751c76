pub mod shared
pub mod Verdicts
pub mod Cuts
pub mod Roots
