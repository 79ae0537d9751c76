pub mod shared
pub mod Branches
pub mod Crossing
pub mod Inners
pub mod Reading
pub mod Seen
pub mod Heads
pub mod Appending
