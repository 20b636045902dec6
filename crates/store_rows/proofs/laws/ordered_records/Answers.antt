use Rattle.store_rows.proofs.OrderLemmas.{ordered_stands}
use Rattle.store_rows.proofs.laws.ordered_records.Goals as goal

pub returns : goal.returns
returns c = ordered_stands
