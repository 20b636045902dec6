-- none up to this one
use Rattle.std.proofs.Common.{◌≡◌, take, false}
use Rattle.store_rows.specs.Order.{is_of}
use Rattle.store_scans.proofs.census.is_one_of.Given as goal

abbrev pub invariant-loop-number : goal.invariant-loop-number
invariant-loop-number l = is_of (take l.number-index l.numbers) l.found ≡ false
