use Rattle.std.proofs.Common.{◌≡◌, ◌-◌, vec_len}
use Rattle.net_driver.proofs.SettleLemmas.{AreParted}
use Rattle.net_driver.proofs.connections.Connections.part.Given as goal

abbrev pub invariant-loop-place : goal.invariant-loop-place
invariant-loop-place g l = record {
  parted : AreParted l.fn.self.opened.items l.self.opened.items l.fn.self.departing.items l.self.departing.items l.place;
  last : l.self.last ≡ l.fn.self.last;
}

abbrev pub decreases-loop-place : goal.decreases-loop-place
decreases-loop-place g l = vec_len l.self.opened - l.place
