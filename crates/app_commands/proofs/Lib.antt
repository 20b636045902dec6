pub mod EndLemmas
pub mod PlainLemmas
pub mod ServingLemmas
pub mod WritingLemmas
