use Rattle.std.proofs.Common.{◌≡◌, ◌≤◌, false, length, take}
use Rattle.dict_catalogue.specs.Steps.{Catalogue}
use Rattle.dict_session.specs.Desks.{Stays}
use Rattle.dict_session.specs.Rows.{IsCounted}
use Rattle.dict_session.proofs.found.count_all.Given as goal

abbrev pub invariant-loop-place : goal.invariant-loop-place
invariant-loop-place g l = record {
  left : g.L.Lookup.is_trusted l.desk → (M : Catalogue) → g.L.Lookup.shows l.fn.desk M → length l.places ≤ 64 → IsCounted l.query M.items (take l.place-index l.places) l.counted;
  desk : Stays g.L.Lookup.shows g.L.Lookup.leaves_one_of g.L.Lookup.keeps_beside g.L.Lookup.is_trusted g.L.Lookup.is_closed l.fn.desk l.desk;
  is_open : g.L.Lookup.is_closed l.fn.desk ≡ false → g.L.Lookup.is_closed l.desk ≡ false;
}
