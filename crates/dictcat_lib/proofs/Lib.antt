pub mod FileLemmas
pub mod UnopenedLemmas
