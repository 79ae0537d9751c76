pub mod shared
pub mod Joined
