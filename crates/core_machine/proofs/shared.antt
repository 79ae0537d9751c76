-- What proofs of other crates cite. A change here is a change for them.
pub mod States
pub mod Entries
pub mod Numbering
pub mod Checks
pub mod Sections
pub mod Serving
