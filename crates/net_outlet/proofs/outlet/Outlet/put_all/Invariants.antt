use Rattle.std.proofs.Common.{◌≡◌, false, ◌+◌, ◌≤◌, ◌++◌, length}
use Rattle.net_outlet.specs.Outlets.{carried}
use Rattle.net_outlet.specs.Queues.{waiting}
use Rattle.net_outlet.proofs.outlet.Outlet.put_all.Given as goal

abbrev pub invariant-loop-rest : goal.invariant-loop-rest
invariant-loop-rest g l = record {
  whole : carried l.self.taken l.self.queue ++ l.rest ≡ carried l.fn.self.taken l.fn.self.queue ++ l.bytes;
  well : l.self.has_failed ≡ false;
  within : length l.rest ≤ length l.bytes;
  failures : l.self.queue.failures ≡ l.fn.self.queue.failures;
}

abbrev pub decreases-loop-rest : goal.decreases-loop-rest
decreases-loop-rest g l = length l.rest + length (waiting l.self.queue)
