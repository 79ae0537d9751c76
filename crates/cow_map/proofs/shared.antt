-- What proofs of other crates cite. A change here is a change for them.
pub mod Entries
pub mod Filters
pub mod Gathered
pub mod Keys
pub mod Leading
pub mod Orders
pub mod Planting
pub mod Pushing
pub mod Sealing
pub mod Standing
