use Rattle.std.proofs.Common.{◌≡◌, vec_len}
use Rattle.net_driver.specs.Rounds.{connections_fitting}
use Rattle.net_driver.proofs.connections.Connections.bound.Given as goal

abbrev pub invariant-loop-self : goal.invariant-loop-self
invariant-loop-self g l = record {
  departing : connections_fitting 33554432 l.self.departing.items ≡ connections_fitting 33554432 l.fn.self.departing.items;
  opened : l.self.opened ≡ l.fn.self.opened;
  last : l.self.last ≡ l.fn.self.last;
}

abbrev pub decreases-loop-self : goal.decreases-loop-self
decreases-loop-self g l = vec_len l.self.departing
