pub mod shared
pub mod Tables
pub mod Next
