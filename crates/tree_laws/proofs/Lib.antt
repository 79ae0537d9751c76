pub mod shared
pub mod Parts
pub mod Meeting
pub mod Shapes
pub mod Standing
pub mod BranchCounts
pub mod PageLaw
