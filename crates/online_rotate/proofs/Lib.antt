pub mod shared
pub mod Rotating
