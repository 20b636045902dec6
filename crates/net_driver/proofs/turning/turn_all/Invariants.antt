use Rattle.std.proofs.Common.{◌≡◌, ◌<◌, ℕ, true, false, length, get_or}
use Rattle.dict_session.specs.Desks.{condition}
use Rattle.http_service.specs.Foreseeing.{IsToldAnew}
use Rattle.net_connection.specs.Leading.{HasLedOn}
use Rattle.net_connection.specs.Turns.{HasNothingToDo}
use Rattle.net_driver.proofs.ListLemmas.{HaveSameIds}
use Rattle.net_driver.proofs.RoundLemmas.{KeepsFrom, TurnUpTo}
use Rattle.net_driver.specs.Turning.{KeepsOnlyOpenOf}
use Rattle.net_driver.proofs.turning.turn_all.Given as goal

abbrev pub invariant-loop-one : goal.invariant-loop-one
invariant-loop-one g l = record {
  ids : HaveSameIds l.fn.all.items l.one-items;
  idle : l.has_moved ≡ false → (k : ℕ) (d : _) → k < l.one-index → k < length l.one-items → HasNothingToDo (get_or l.one-items k d);
  trust : g.K.Lookup.is_trusted l.desk → g.K.Lookup.is_trusted l.fn.desk;
  beside : (beside : g.K.Lookup.Beside) → g.K.Lookup.keeps_beside l.fn.desk beside → g.K.Lookup.keeps_beside l.desk beside;
  closed : g.K.Lookup.is_closed l.fn.desk ≡ true → g.K.Lookup.is_closed l.desk ≡ true;
  others : KeepsFrom l.fn.all.items l.one-index l.fn.hub l.hub;
  led : HasLedOn (g.K.Lookup.is_trusted l.desk) (g.K.Lookup.shows l.fn.desk) (g.K.Lookup.leaves_one_of l.fn.desk) (g.K.Lookup.shows l.desk) (g.K.Lookup.leaves_one_of l.desk) l.fn.hub l.hub
      (λ events. TurnUpTo (condition g.K.Lookup.has_failed g.K.Lookup.is_closed)
      (IsToldAnew g.K.Lookup.shows g.K.Lookup.leaves_one_of g.K.Lookup.keeps_beside g.K.Lookup.is_trusted g.K.Lookup.has_failed g.K.Lookup.is_closed g.K.Preparer.expects)
      g.K.Preparer.prepares g.T.Transport.taken g.T.Transport.coming g.T.Transport.made g.O.Opening.refuses l.fn.hub l.fn.desk l.desk
      l.fn.all.items l.one-items l.one-index l.first l.has_moved events
      × KeepsOnlyOpenOf l.fn.hub l.hub l.fn.all.items l.one-items);
}
