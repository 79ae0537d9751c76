-- What proofs of other crates cite. A change here is a change for them.
pub mod Growing
pub mod Heeding
pub mod Places
pub mod Seeing
