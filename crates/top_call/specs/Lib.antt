pub mod Asking
pub mod Output
pub mod Dump
pub mod Top
pub mod Stopping
