use Rattle.std.proofs.lemmas.Result.{on_ok_weaker}
use Rattle.store_scans.proofs.TakerLemmas.{at_err, replies_next, replies_refused}
use Rattle.store_scans.proofs.takers.ReaderTakerStoredRowKeptRecordString.take.Goals as goal

pub returns-clause-taken : goal.returns-clause-taken
returns-clause-taken c = on_ok_weaker c.kept.result (λ more first given h. replies_next first given c.args.next c.args.self.now h c.kept.new.self more) c.kept.ensures.taken

pub returns-clause-refused : goal.returns-clause-refused
returns-clause-refused c = at_err _ c.kept.result (λ wrong fault e first given h. replies_refused first given c.args.next c.args.self.now h wrong) c.kept.ensures.damaged
