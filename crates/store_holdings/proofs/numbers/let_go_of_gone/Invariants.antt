-- under the numbers of those after stands what stood there, and none under those of the items so far that are gone
use Rattle.std.proofs.Common.{take}
use Rattle.std.specs.List.{AllByRecursion}
use Rattle.store_holdings.specs.Indexes.{IsGone}
use Rattle.store_holdings.proofs.NumberLemmas.{OfNumbers, Same}
use Rattle.store_holdings.proofs.numbers.let_go_of_gone.Given as goal

abbrev pub invariant-loop-item : goal.invariant-loop-item
invariant-loop-item l = record {
  same : AllByRecursion (OfNumbers (Same l.initial.indexes l.indexes)) l.after;
  gone : AllByRecursion (OfNumbers (IsGone l.after l.indexes)) (take l.item-index l.before);
}
