pub mod RunLemmas
pub mod EndLemmas
pub mod PieceLemmas
pub mod RangeLemmas
pub mod SearchLemmas
