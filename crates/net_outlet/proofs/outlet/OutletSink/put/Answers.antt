use Rattle.std.proofs.Common.{inr}
use Rattle.net_outlet.proofs.OutletLemmas.{puts_noted}
use Rattle.net_outlet.proofs.outlet.OutletSink.put.Goals as goal

pub returns-in-Err-clause-some : goal.returns-in-Err-clause-some
returns-in-Err-clause-some g c =
    inr (puts_noted c.args.bytes.now c.args.self.now.taken c.args.self.now.queue c.put_all.new.self.taken c.put_all.new.self.queue c.note_failure-in-Err.new.self c.note_failure-in-Err.ensures.octets
    c.note_failure-in-Err.ensures.sent c.in-Err.ensures.some)
