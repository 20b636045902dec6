-- the numbers up to this one
use Rattle.std.proofs.Common.{◌≡◌, take}
use Rattle.std.specs.Prelude.{map, pos}
use Rattle.store_rows.proofs.written.signed_numbers.Given as goal

abbrev pub invariant-loop-number : goal.invariant-loop-number
invariant-loop-number l = l.signed.items ≡ map pos (take l.number-index l.numbers)
