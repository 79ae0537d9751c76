pub mod Said
pub mod Verdicts
pub mod Runs
pub mod Keeping
pub mod Twins
