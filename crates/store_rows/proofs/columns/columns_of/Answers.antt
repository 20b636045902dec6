use Rattle.store_rows.proofs.ColumnLemmas.{lacks_no_cut, columns_behind, last_behind}
use Rattle.store_rows.proofs.columns.columns_of.Goals as goal

pub returns-in_default : goal.returns-in_default
returns-in_default c first second third fourth columns = lacks_no_cut 9 c.args.line.now first _ c.in_default.ensures columns.whole

pub returns-in_default-cut_at : goal.returns-in_default-cut_at
returns-in_default-cut_at c first second third fourth columns =
    lacks_no_cut 9 c.in-Some.rest.now second _ c.in_default-cut_at.ensures (columns_behind c.args.line.now c.in-Some.headword.now c.in-Some.rest.now first second third fourth c.in-Some.ensures columns)

pub returns-in_default-last_columns : goal.returns-in_default-last_columns
returns-in_default-last_columns c first second third fourth columns =
    c.in_default-last_columns.ensures third fourth (last_behind c.args.line.now _ _ _ _ first second third fourth c.in-Some.ensures c.in-Some-cut_at.ensures columns)
