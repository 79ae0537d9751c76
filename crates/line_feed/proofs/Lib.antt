pub mod shared
pub mod Newlines
pub mod Going
