pub mod shared
pub mod Judging
pub mod Ticking
pub mod Replying
