use Rattle.store_rows.proofs.StoredLemmas.{same_read}
use Rattle.store_rows.proofs.reading.read_line.Goals as goal

pub returns-clause-same : goal.returns-clause-same
returns-clause-same c = same_read c.args.octets.now c.first_line.result c.first_line.ensures
