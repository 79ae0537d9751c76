pub mod Walks
pub mod Strides
pub mod Counts
pub mod Slices
pub mod Scenes
pub mod Moves
pub mod Calls
