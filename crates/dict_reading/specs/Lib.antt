pub mod Columns
pub mod Places
pub mod Lines
pub mod Gathered
pub mod Reading
pub mod Views
pub mod Slices
