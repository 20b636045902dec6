use Rattle.std.proofs.Common.{take}
use Rattle.dict_desk.specs.PlainEntries.{rows_found}
use Rattle.dict_desk.proofs.entries.hand_found.Given as goal

abbrev pub invariant-loop-entry : goal.invariant-loop-entry
invariant-loop-entry g l = g.T.RowSink.takes l.initial.sink (rows_found l.text l.strategy l.query (take l.entry-index l.entries)) l.sink
