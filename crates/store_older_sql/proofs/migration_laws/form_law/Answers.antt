use Rattle.store_older_sql.proofs.EntryTexts.{form_names}
use Rattle.store_older_sql.proofs.migration_laws.form_law.Goals as goal

pub returns : goal.returns
returns c = form_names
