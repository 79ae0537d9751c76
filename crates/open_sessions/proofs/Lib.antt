pub mod shared
pub mod Stopping
