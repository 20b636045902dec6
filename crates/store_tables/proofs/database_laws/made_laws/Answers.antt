use Rattle.store_tables.proofs.MakeLemmas.{one_own, one_keeps, one_leaves, one_unused, one_rows}
use Rattle.store_tables.proofs.database_laws.made_laws.Goals as goal

pub returns-clause-made : goal.returns-clause-made
returns-clause-made c = one_own

pub returns-clause-kept : goal.returns-clause-kept
returns-clause-kept c = one_keeps

pub returns-clause-room : goal.returns-clause-room
returns-clause-room c = one_leaves

pub returns-clause-unused : goal.returns-clause-unused
returns-clause-unused c = one_unused

pub returns-clause-rows : goal.returns-clause-rows
returns-clause-rows c = one_rows
