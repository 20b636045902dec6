use Rattle.std.proofs.Common.{◌≡◌, ◌<◌, ◌-◌}
use Rattle.net_connection.specs.Leading.{HasLedOn}
use Rattle.net_driver.specs.Looking.{IsKept, listening_of, other_kind}
use Rattle.net_driver.specs.Rounds.{Moves}
use Rattle.net_driver.specs.declared.listening.Listening.TheVariants.{Ready}
use Rattle.net_driver.proofs.AcceptLemmas.{HasBegun}
use Rattle.net_driver.proofs.event_loop.EventLoop.accept_all.Given as goal

abbrev pub invariant-loop : goal.invariant-loop
invariant-loop g l = record {
  ready : 0 < l.counter → listening_of l.fn.kind l.self ≡ Ready;
  trust : g.K.Lookup.is_trusted l.desk → g.K.Lookup.is_trusted l.fn.desk;
  beside : (beside : g.K.Lookup.Beside) → g.K.Lookup.keeps_beside l.fn.desk beside → g.K.Lookup.keeps_beside l.desk beside;
  unasked : l.desk ≡ l.fn.desk;
  kept : IsKept l.fn.self l.self;
  other : listening_of (other_kind l.fn.kind) l.self ≡ listening_of (other_kind l.fn.kind) l.fn.self;
  led : HasLedOn (g.K.Lookup.is_trusted l.desk) (g.K.Lookup.shows l.fn.desk) (g.K.Lookup.leaves_one_of l.fn.desk) (g.K.Lookup.shows l.desk) (g.K.Lookup.leaves_one_of l.desk) l.fn.self.hub l.self.hub
      (λ events. Moves l.fn.self.connections l.self.connections events × HasBegun g.S.Opening.refuses g.S.Sockets.asked (16 - l.counter) l.fn.kind Ready l.fn.self l.self events);
}
