use Rattle.sqlite.specs.Held.{state}
use Rattle.store_tables.proofs.MakeLemmas.{counts_since}
use Rattle.store_tables.proofs.StateLemmas.{read_counts, commit_counts}
use Rattle.store_tables.proofs.database_laws.fault_laws.Goals as goal

pub returns-clause-since : goal.returns-clause-since
returns-clause-since g c old mid new = counts_since (state g.S.Store old) (state g.S.Store mid) (state g.S.Store new)

pub returns-clause-read : goal.returns-clause-read
returns-clause-read g c old new = read_counts (state g.S.Store old) (state g.S.Store new)

pub returns-clause-commit : goal.returns-clause-commit
returns-clause-commit g c old new = commit_counts (state g.S.Store old) (state g.S.Store new)
