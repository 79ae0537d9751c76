pub mod Keys
pub mod SameKeys
pub mod Marking
