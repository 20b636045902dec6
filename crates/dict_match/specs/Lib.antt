pub mod FirstVersion
pub mod Key
pub mod Matching
pub mod StrategyText
pub mod Words
pub mod Joined
