use Rattle.store_scans.proofs.TakerLemmas.{at_err, ids_refused}
use Rattle.store_scans.proofs.takers.IdReaderTakerStoredRowKeptRecordString.take.Goals as goal

pub returns-clause-refused : goal.returns-clause-refused
returns-clause-refused c = at_err _ c.id.result (λ wrong fault e first given h. ids_refused first given c.args.next c.args.self.now h wrong) c.id.ensures.damaged
