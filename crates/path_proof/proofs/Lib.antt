pub mod shared
pub mod Bare
pub mod Holding
pub mod Steps
pub mod PathLaws
pub mod Walks
