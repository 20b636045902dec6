use Rattle.std.proofs.Common.{◌≡◌, map, take}
use Rattle.store_sql.proofs.read.records_of.Given as goal

abbrev pub invariant-loop-row : goal.invariant-loop-row
invariant-loop-row g l = map g.R.Record.stored l.all.items ≡ take l.row-index l.rows
