pub mod Placed
pub mod Given
pub mod Walks
pub mod Trees
pub mod Listed
pub mod Tracking
pub mod Rounds
