pub mod Wires
pub mod ChunkLists
pub mod TakingBytes
pub mod Taking
pub mod Written
pub mod WireLaws
