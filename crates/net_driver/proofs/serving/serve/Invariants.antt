use Rattle.std.proofs.Common.{◌≡◌, ◌<◌, ◌≤◌, ◌+◌, ◌-◌, ◌^◌, List, false}
use Rattle.std.specs.Duration.{as_nanos}
use Rattle.net_connection.specs.Leading.{HasLedOn}
use Rattle.net_driver.specs.Rounds.{Moves}
use Rattle.net_driver.specs.Served.{Round}
use Rattle.net_driver.proofs.ServedLemmas.{AreMade}
use Rattle.net_driver.proofs.serving.serve.Given as goal

abbrev pub invariant-loop-made : goal.invariant-loop-made
invariant-loop-made g l = record {
  by_rounds : (each : List (Round _ _ _ _)) × AreMade g.K.Lookup.shows g.K.Lookup.leaves_one_of g.K.Lookup.keeps_beside g.K.Lookup.is_trusted g.K.Lookup.has_failed g.K.Lookup.is_closed g.K.Preparer.expects g.K.Preparer.prepares
      g.T.Transport.taken
      g.T.Transport.coming g.T.Transport.made g.S.Opening.refuses
      g.S.Sockets.asked g.S.Sockets.told (as_nanos l.fn.wait) l.fn.rounds l.fn.event_loop l.fn.desk l.event_loop l.desk each (l.fn.rounds - l.made);
  grown : l.fn.event_loop.rounds ≤ l.event_loop.rounds;
  counted : l.fn.event_loop.rounds + l.fn.rounds < 2 ^ 64 → l.event_loop.rounds ≡ l.fn.event_loop.rounds + l.made;
  is_open : 0 < l.made → g.K.Lookup.is_closed l.desk ≡ false;
  trust : g.K.Lookup.is_trusted l.desk → g.K.Lookup.is_trusted l.fn.desk;
  beside : (beside : g.K.Lookup.Beside) → g.K.Lookup.keeps_beside l.fn.desk beside → g.K.Lookup.keeps_beside l.desk beside;
  led : HasLedOn (g.K.Lookup.is_trusted l.desk) (g.K.Lookup.shows l.fn.desk) (g.K.Lookup.leaves_one_of l.fn.desk) (g.K.Lookup.shows l.desk) (g.K.Lookup.leaves_one_of l.desk) l.fn.event_loop.hub l.event_loop.hub
      (λ events. Moves l.fn.event_loop.connections l.event_loop.connections events);
}
