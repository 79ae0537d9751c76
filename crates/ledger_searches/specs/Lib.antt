pub mod Hunting
pub mod Sharing
pub mod Answering
