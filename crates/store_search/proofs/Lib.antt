pub mod EditionLemmas
pub mod IndexLemmas
pub mod ShownLemmas
pub mod StoredLemmas
