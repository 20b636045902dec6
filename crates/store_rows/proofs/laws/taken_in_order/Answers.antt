use Rattle.store_rows.proofs.ApartLemmas.{ids_once, rowids_apart}
use Rattle.store_rows.proofs.laws.taken_in_order.Goals as goal

pub returns-clause-ids : goal.returns-clause-ids
returns-clause-ids c = ids_once

pub returns-clause-rowids : goal.returns-clause-rowids
returns-clause-rowids c = rowids_apart
