use Rattle.std.proofs.Common.{◌≡◌, take}
use Rattle.net_driver.specs.Looking.{tells}
use Rattle.net_driver.specs.Turning.{MarkAll}
use Rattle.net_driver.proofs.event_loop.mark_told.Given as goal

abbrev pub invariant-loop-place : goal.invariant-loop-place
invariant-loop-place g l = record {
  opened : MarkAll (tells (take l.place (g.S.Sockets.told l.sockets))) l.fn.connections.opened.items l.connections.opened.items;
  departing : MarkAll (tells (take l.place (g.S.Sockets.told l.sockets))) l.fn.connections.departing.items l.connections.departing.items;
  last : l.connections.last ≡ l.fn.connections.last;
}
