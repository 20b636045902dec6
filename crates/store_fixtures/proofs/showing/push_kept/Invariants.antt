use Rattle.std.proofs.Common.{List}
use Rattle.std.specs.Prelude.{Option}
use Rattle.dict_catalogue.specs.Steps.{Catalogue}
use Rattle.store_fixtures.proofs.showing.push_kept.Given as goal

abbrev pub invariant-loop-id : goal.invariant-loop-id
invariant-loop-id g l = record {
  trust : g.K.Lookup.is_trusted l.desk → g.K.Lookup.is_trusted l.fn.desk;
  beside : (beside : g.K.Lookup.Beside) → g.K.Lookup.keeps_beside l.fn.desk beside → g.K.Lookup.keeps_beside l.desk beside;
  shows : g.K.Lookup.is_trusted l.desk → (M : Catalogue) → g.K.Lookup.shows l.fn.desk M → g.K.Lookup.shows l.desk M;
  leaves : (ms : List (Option Catalogue)) → g.K.Lookup.leaves_one_of l.fn.desk ms → g.K.Lookup.leaves_one_of l.desk ms;
}
