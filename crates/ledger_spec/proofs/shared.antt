-- What proofs of other crates cite. A change here is a change for them.
pub mod ByteForms
pub mod Growth
pub mod Hashes
pub mod Inners
pub mod OfferLaws
pub mod Owning
pub mod ReachLaws
pub mod Readings
pub mod Seeing
pub mod Storing
