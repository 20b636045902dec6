-- none
pub mod TurnLemmas
