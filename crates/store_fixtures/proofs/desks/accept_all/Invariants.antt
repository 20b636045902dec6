use Rattle.std.proofs.Common.{take}
use Rattle.dict_catalogue.specs.Steps.{Catalogue, after}
use Rattle.store_fixtures.specs.Asked.{AreAccepted, requests_asked}
use Rattle.store_fixtures.proofs.desks.accept_all.Given as goal

abbrev pub invariant-loop-id : goal.invariant-loop-id
invariant-loop-id g l = record {
  applied : AreAccepted g.K.Keeper.applies l.fn.desk (requests_asked l.editions.all.items (take l.id-index l.asked)) l.desk;
  shows : g.K.Lookup.is_trusted l.desk → (M : Catalogue) → g.K.Lookup.shows l.fn.desk M → g.K.Lookup.shows l.desk (after M (requests_asked l.editions.all.items (take l.id-index l.asked)));
  trust : g.K.Lookup.is_trusted l.desk → g.K.Lookup.is_trusted l.fn.desk;
  beside : (beside : g.K.Lookup.Beside) → g.K.Lookup.keeps_beside l.fn.desk beside → g.K.Lookup.keeps_beside l.desk beside;
}
