pub mod Places
pub mod Orders
pub mod Merging
pub mod Sorting
