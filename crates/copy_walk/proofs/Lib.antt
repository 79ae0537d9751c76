pub mod shared
pub mod Lists
pub mod Writing
pub mod Moving
pub mod Copying
pub mod Shading
pub mod Taking
pub mod Naming
