pub mod Looking
pub mod Leaving
pub mod Opening
pub mod Ending
