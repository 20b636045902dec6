pub mod Statuses
pub mod Fields
pub mod Heads
pub mod Requests
pub mod Paths
pub mod Rows
