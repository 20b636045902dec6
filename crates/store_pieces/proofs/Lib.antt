pub mod CommonLemmas
pub mod KeptLemmas
pub mod PieceLemmas
pub mod PlacedLemmas
pub mod RankLemmas
pub mod RarestLemmas
pub mod SelectionLemmas
pub mod WordLemmas
