pub mod Holding
pub mod Looks
pub mod Reopening
pub mod Wholeness
