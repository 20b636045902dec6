pub mod Characters
pub mod Blanks
pub mod Lines
pub mod Names
pub mod Number
pub mod Faults
