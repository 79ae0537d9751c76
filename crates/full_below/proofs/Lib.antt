pub mod shared
pub mod Paths
