pub mod Edited
pub mod Changed
pub mod Rows
