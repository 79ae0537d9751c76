pub mod shared
mod Rows
pub mod FormLaws
