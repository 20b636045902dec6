use Rattle.std.proofs.Common.{◌≡◌, ◌≤◌, ◌<◌, false, length, take}
use Rattle.std.specs.Prelude.{vec_len, vec_capacity}
use Rattle.dict_catalogue.specs.Steps.{Catalogue}
use Rattle.dict_desk.specs.AllApplied.{AllAnswered, AreApplied}
use Rattle.dict_desk.specs.Requests.{requests_meant}
use Rattle.dict_desk.proofs.keeper.apply_all.Given as goal

abbrev pub invariant-loop-request : goal.invariant-loop-request
invariant-loop-request g l = record {
  answered : g.K.Lookup.is_trusted l.desk → (M : Catalogue) → g.K.Lookup.shows l.fn.desk M
      → AllAnswered (g.K.Lookup.shows l.desk) (g.K.Lookup.leaves_one_of l.fn.desk) (g.K.Lookup.leaves_one_of l.desk) M (take l.request-index (requests_meant l.requests)) l.outcomes.items;
  called : AreApplied g.K.Keeper.applies l.fn.desk (take l.request-index (requests_meant l.requests)) l.outcomes.items l.desk;
  trust : g.K.Lookup.is_trusted l.desk → g.K.Lookup.is_trusted l.fn.desk;
  beside : (beside : g.K.Lookup.Beside) → g.K.Lookup.keeps_beside l.fn.desk beside → g.K.Lookup.keeps_beside l.desk beside;
  counted : vec_len l.outcomes ≡ l.request-index;
  room : length l.requests ≤ vec_capacity l.outcomes;
  first : l.request-index ≡ 0 → l.desk ≡ l.fn.desk;
  unfailed : 0 < l.request-index → g.K.Lookup.has_failed l.desk ≡ false;
  closes : g.K.Lookup.is_closed l.desk ≡ g.K.Lookup.is_closed l.fn.desk;
  never : 0 < l.request-index → g.K.Lookup.is_closed l.fn.desk ≡ false;
}
