pub mod ComparedLemmas
pub mod ListLemmas
pub mod MergingLemmas
pub mod PlaceLemmas
