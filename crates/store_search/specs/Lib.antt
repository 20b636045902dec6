pub mod Entries
pub mod Selected
pub mod Found
pub mod Stored
pub mod Indexes
pub mod Making
