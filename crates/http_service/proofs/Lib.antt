pub mod BodyLemmas
pub mod EscapeLemmas
pub mod JsonTextLemmas
pub mod TextLemmas
pub mod RespondLemmas
pub mod PartLemmas
pub mod ServiceLemmas
pub mod SettledLemmas
