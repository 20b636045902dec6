pub mod OutletLemmas
