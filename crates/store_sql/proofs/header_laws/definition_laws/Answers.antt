use Rattle.store_sql.proofs.HeaderDefinitionLemmas.{header_defined, same_names, apart_as, from_store, from_keyed}
use Rattle.store_sql.proofs.header_laws.definition_laws.Goals as goal

pub returns-clause-header : goal.returns-clause-header
returns-clause-header c = header_defined

pub returns-clause-names : goal.returns-clause-names
returns-clause-names c = same_names

pub returns-clause-beside : goal.returns-clause-beside
returns-clause-beside c = apart_as

pub returns-clause-store : goal.returns-clause-store
returns-clause-store c = from_store

pub returns-clause-keyed : goal.returns-clause-keyed
returns-clause-keyed c = from_keyed
