-- What proofs of other crates cite. A change here is a change for them.
pub mod Lists
pub mod Tables
pub mod Filling
