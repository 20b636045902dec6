use Rattle.store_older_sql.proofs.MigrationDefinitionLemmas.{form_defined}
use Rattle.store_older_sql.proofs.migration_laws.old_definition_laws.Goals as goal

pub returns : goal.returns
returns c = record { forms = form_defined }
