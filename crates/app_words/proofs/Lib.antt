pub mod LineLemmas
pub mod WordLineLemmas
pub mod ReadingLemmas
