use Rattle.store_rows.proofs.WorkedLemmas.{worked_stands}
use Rattle.store_rows.proofs.laws.worked_records.Goals as goal

pub returns : goal.returns
returns c = worked_stands
