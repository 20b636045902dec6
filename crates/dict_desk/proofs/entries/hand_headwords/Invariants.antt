use Rattle.std.proofs.Common.{take}
use Rattle.dict_desk.specs.PlainEntries.{rows_listed}
use Rattle.dict_desk.proofs.entries.hand_headwords.Given as goal

abbrev pub invariant-loop-place : goal.invariant-loop-place
invariant-loop-place g l = g.T.RowSink.takes l.initial.sink (rows_listed l.strategy l.query (take l.place l.entries)) l.sink
