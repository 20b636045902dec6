use Rattle.store_tables.proofs.MadeLemmas.{store_defined, store_apart}
use Rattle.store_tables.proofs.laws.definition_laws.Goals as goal

pub returns-clause-each : goal.returns-clause-each
returns-clause-each c = store_defined

pub returns-clause-apart : goal.returns-clause-apart
returns-clause-apart c = store_apart
