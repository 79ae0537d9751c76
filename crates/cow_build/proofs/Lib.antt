pub mod Joined
pub mod Repeats
pub mod Rising
pub mod Cuts
