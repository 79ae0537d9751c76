pub mod Rows
pub mod Passed
