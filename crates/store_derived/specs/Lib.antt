pub mod Runs
pub mod Spans
pub mod Derived
pub mod KeptGrams
pub mod Search
