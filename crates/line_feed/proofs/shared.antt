-- What proofs of other crates cite. A change here is a change for them.
pub mod Newlines
