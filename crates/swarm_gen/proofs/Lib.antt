mod Rows
pub mod Adds
pub mod Making
pub mod Owners
pub mod Standing
mod Servings
