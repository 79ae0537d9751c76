pub mod shared
pub mod Sources
pub mod Keeping
pub mod Nexts
pub mod Checking
pub mod Spares
mod Filled
