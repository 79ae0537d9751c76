pub mod Lines
pub mod Answers
pub mod Ledgers
pub mod Twins
