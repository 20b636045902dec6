pub mod BookLemmas
pub mod ExchangeLemmas
pub mod HubLemmas
pub mod EventLemmas
pub mod RunLemmas
pub mod LawLemmas
pub mod ObservationLemmas
pub mod DurableLemmas
