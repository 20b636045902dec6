use Rattle.store_older_sql.proofs.KeyedDefinitionLemmas.{keyed_defined, keyed_apart, from_store}
use Rattle.store_older_sql.proofs.keyed_laws.keyed_definition_laws.Goals as goal

pub returns-clause-each : goal.returns-clause-each
returns-clause-each c = keyed_defined

pub returns-clause-apart : goal.returns-clause-apart
returns-clause-apart c = keyed_apart

pub returns-clause-store : goal.returns-clause-store
returns-clause-store c = from_store
