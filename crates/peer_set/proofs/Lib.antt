pub mod Keys
pub mod Finding
pub mod Unasked
pub mod Charging
