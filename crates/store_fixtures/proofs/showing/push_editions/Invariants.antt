use Rattle.std.proofs.Common.{List}
use Rattle.std.specs.Prelude.{Option}
use Rattle.dict_catalogue.specs.Steps.{Catalogue}
use Rattle.store_fixtures.proofs.showing.push_editions.Given as goal

abbrev pub invariant-loop-number : goal.invariant-loop-number
invariant-loop-number g l = record {
  trust : g.L.Lookup.is_trusted l.desk → g.L.Lookup.is_trusted l.fn.desk;
  beside : (beside : g.L.Lookup.Beside) → g.L.Lookup.keeps_beside l.fn.desk beside → g.L.Lookup.keeps_beside l.desk beside;
  shows : g.L.Lookup.is_trusted l.desk → (M : Catalogue) → g.L.Lookup.shows l.fn.desk M → g.L.Lookup.shows l.desk M;
  leaves : (ms : List (Option Catalogue)) → g.L.Lookup.leaves_one_of l.fn.desk ms → g.L.Lookup.leaves_one_of l.desk ms;
}
