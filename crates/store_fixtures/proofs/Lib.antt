mod AskedLemmas
mod DeskLemmas
