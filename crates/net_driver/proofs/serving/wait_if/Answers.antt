use Rattle.std.proofs.Common.{refl}
use Rattle.net_driver.proofs.LookLemmas.{waits_looked}
use Rattle.net_driver.proofs.serving.wait_if.Goals as goal

pub returns-then-is_asked-clause-behind : goal.returns-then-is_asked-clause-behind
returns-then-is_asked-clause-behind g c = rw c.if-is_asked.true c.wait.ensures

pub returns-then-is_asked-clause-waits : goal.returns-then-is_asked-clause-waits
returns-then-is_asked-clause-waits g c = waits_looked _ c.wait.result c.args.event_loop.now c.wait.new.self c.wait.ensures

pub returns-clause-behind : goal.returns-clause-behind
returns-clause-behind g c = rw c.if-is_asked.false (refl, refl)
