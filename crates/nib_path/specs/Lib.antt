pub mod Paths
pub mod Wire
