pub mod Copying
pub mod Rotators
pub mod Calls
