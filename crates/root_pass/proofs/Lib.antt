pub mod Ways
pub mod Hashing
pub mod Steps
pub mod Turning
pub mod Passing
