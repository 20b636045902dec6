-- the elements so far don't settle it
use Rattle.std.proofs.Common.{◌≡◌, drop}
use Rattle.store_rows.specs.Tests.{has_numbers_once}
use Rattle.store_rows.proofs.lawful.has_numbers_once.Given as goal

abbrev pub invariant-loop-index : goal.invariant-loop-index
invariant-loop-index l = has_numbers_once l.numbers ≡ has_numbers_once (drop l.index l.numbers)
