use Rattle.std.proofs.Common.{map, take}
use Rattle.store_search.specs.Entries.{entries_at, headword_row, indexed_shown}
use Rattle.store_holdings.proofs.found.hand_headwords.Given as goal

abbrev pub invariant-loop-place : goal.invariant-loop-place
invariant-loop-place g l = g.T.RowSink.takes l.initial.sink (map headword_row (map indexed_shown (entries_at l.index (take l.place-index l.places)))) l.sink
