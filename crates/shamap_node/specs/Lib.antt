pub mod Items
pub mod Nodes
pub mod Causes
pub mod Laws
pub mod Reading
pub mod Heads
