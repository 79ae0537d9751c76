-- What proofs of other crates cite. A change here is a change for them.
pub mod Closing
pub mod Editing
pub mod Opening
pub mod Rows
pub mod Tables
