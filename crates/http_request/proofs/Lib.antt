pub mod ValuesLemmas
pub mod EndLemmas
pub mod HeadLemmas
pub mod LawLemmas
pub mod SeekLemmas
pub mod PathLemmas
pub mod RouteLawLemmas
