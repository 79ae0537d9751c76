pub mod Half
pub mod Halves
pub mod Hex
pub mod Prefix
pub mod Zero
