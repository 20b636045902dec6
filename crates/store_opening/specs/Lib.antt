pub mod Reading
pub mod Layouts
pub mod Marks
pub mod Opens
pub mod Indexed
