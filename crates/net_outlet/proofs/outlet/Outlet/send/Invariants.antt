use Rattle.std.proofs.Common.{◌≡◌, false}
use Rattle.net_outlet.specs.Outlets.{carried}
use Rattle.net_outlet.specs.Queues.{waiting}
use Rattle.net_outlet.proofs.outlet.Outlet.send.Given as goal

abbrev pub invariant-loop-self : goal.invariant-loop-self
invariant-loop-self g l = record {
  carried : carried l.self.taken l.self.queue ≡ carried l.fn.self.taken l.fn.self.queue;
  well : l.self.has_failed ≡ false;
  waits : waiting l.self.queue ≡ waiting l.fn.self.queue;
  failures : l.self.queue.failures ≡ l.fn.self.queue.failures;
}

abbrev pub decreases-loop-self : goal.decreases-loop-self
decreases-loop-self g l = l.self.tries
