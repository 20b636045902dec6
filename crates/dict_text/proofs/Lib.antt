pub mod AllLemmas
pub mod BlankLemmas
pub mod LineLemmas
pub mod PositionLemmas
pub mod DigitLemmas
pub mod NumberLemmas
pub mod FaultLemmas
pub mod AsciiLemmas
