-- the elements so far don't settle it
use Rattle.std.proofs.Common.{◌≡◌, drop}
use Rattle.std.specs.List.{list_all}
use Rattle.store_rows.specs.Tests.{is_from_one_to}
use Rattle.store_rows.proofs.lawful.are_from_one_to.Given as goal

abbrev pub invariant-loop-number : goal.invariant-loop-number
invariant-loop-number l = list_all (is_from_one_to l.installs) l.numbers ≡ list_all (is_from_one_to l.installs) (drop l.number-index l.numbers)
