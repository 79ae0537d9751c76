pub mod shared
pub mod Keeping
