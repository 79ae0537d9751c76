pub mod Orders
pub mod Places
pub mod Visiting
pub mod PageLaws
pub mod WholePages
