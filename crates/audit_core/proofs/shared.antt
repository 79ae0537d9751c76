-- What proofs of other crates cite. A change here is a change for them.
pub mod Behind
pub mod Cuts
pub mod Decoded
pub mod Twins
pub mod Underway
