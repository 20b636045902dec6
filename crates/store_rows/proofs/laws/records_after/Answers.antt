use Rattle.store_rows.proofs.ChangeLemmas.{after_stands}
use Rattle.store_rows.proofs.laws.records_after.Goals as goal

pub returns : goal.returns
returns c = after_stands
