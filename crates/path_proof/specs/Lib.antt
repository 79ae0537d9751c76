pub mod Paths
pub mod Sources
pub mod Ways
pub mod Progressing
