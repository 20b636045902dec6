pub mod Counting
pub mod Listening
pub mod Deeds
pub mod Serving
pub mod Done
