pub mod Documents
pub mod Pages
pub mod Keeping
pub mod Texts
pub mod Twins
