-- What proofs of other crates cite. A change here is a change for them.
pub mod Below
pub mod BranchCounts
pub mod ByteItems
pub mod Joins
pub mod MapPages
pub mod Orders
pub mod Parts
pub mod PathLaw
pub mod Shapes
pub mod Sights
pub mod Steps
pub mod StorePages
pub mod Subtrees
pub mod Trees
pub mod WholeLaw
