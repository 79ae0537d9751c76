pub mod shared
pub mod Running
pub mod TakingUp
