-- What proofs of other crates cite. A change here is a change for them.
pub mod Merging
pub mod Reading
pub mod Sources
