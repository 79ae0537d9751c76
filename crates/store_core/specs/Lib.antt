pub mod Journal
pub mod Dumping
pub mod Reads
pub mod Failing
pub mod Halls
pub mod Jobs
pub mod Committing
