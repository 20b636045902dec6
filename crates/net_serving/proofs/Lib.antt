pub mod ListenLemmas
pub mod DeedLemmas
pub mod StretchLemmas
