use Rattle.store_sql.proofs.PartDefinitionLemmas.{part_defined, from_store, from_keyed}
use Rattle.store_sql.proofs.part_laws.definition_laws.Goals as goal

pub returns-clause-part : goal.returns-clause-part
returns-clause-part c = part_defined

pub returns-clause-store : goal.returns-clause-store
returns-clause-store c = from_store

pub returns-clause-keyed : goal.returns-clause-keyed
returns-clause-keyed c = from_keyed
