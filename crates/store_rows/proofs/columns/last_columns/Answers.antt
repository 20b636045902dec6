use Rattle.store_rows.proofs.ColumnLemmas.{no_last}
use Rattle.store_rows.proofs.columns.last_columns.Goals as goal

pub returns-in-Some-cut_at : goal.returns-in-Some-cut_at
returns-in-Some-cut_at c = no_last c.args.rest.now _ _ _ _ c.in-Some.ensures c.in-Some-cut_at.ensures
