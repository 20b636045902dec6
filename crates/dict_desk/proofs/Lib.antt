pub mod LeavesLemmas
pub mod HandingLemmas
mod RowLemmas
mod SpanLemmas
mod LinkLemmas
mod PlaceLemmas
mod ListedLemmas
mod HitLemmas
mod PlainLemmas
mod DeskLemmas
mod ReplyLemmas
mod AcceptLemmas
pub mod AllLemmas
