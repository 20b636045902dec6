-- none of the items so far has it
use Rattle.std.proofs.Common.{◌≢◌, ℕ, take}
use Rattle.std.specs.List.{AllByRecursion}
use Rattle.store_holdings.proofs.NumberLemmas.{OfNumbers}
use Rattle.store_holdings.proofs.numbers.has_number.Given as goal

abbrev pub invariant-loop-item : goal.invariant-loop-item
invariant-loop-item l = AllByRecursion (OfNumbers (λ (one : ℕ). one ≢ l.number)) (take l.item-index l.items)
