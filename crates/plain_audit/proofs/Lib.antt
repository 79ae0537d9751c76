pub mod shared
pub mod Texts
pub mod Read
pub mod Twins
