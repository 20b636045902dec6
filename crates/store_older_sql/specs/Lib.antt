pub mod Scans
pub mod Texts
pub mod Entries
pub mod Drops
pub mod Others
