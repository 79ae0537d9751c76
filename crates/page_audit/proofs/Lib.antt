pub mod Texted
pub mod Listed
pub mod Paging
pub mod DocumentsTold
pub mod Told
pub mod Read
pub mod Twins
