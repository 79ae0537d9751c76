pub mod shared
pub mod Firsts
pub mod Nibbles
pub mod Places
pub mod Reading
