use Rattle.std.proofs.Common.{codes, filter}
use Rattle.sqlite.specs.Held.{state}
use Rattle.store_tables.specs.Effects.{equals_text, rows_of}
use Rattle.store_sql.specs.Columns.{kept_columns}
use Rattle.store_sql.proofs.StreamLemmas.{fails_to_read_into}
use Rattle.store_sql.proofs.read.kept_replies_of.Goals as goal

pub returns-clause-failed : goal.returns-clause-failed
returns-clause-failed g c clean =
    let rows = c.in_ok-rows.rows.items in
    let it = c.in_ok-rows.ensures.selected clean in
    fails_to_read_into kept_columns (filter (equals_text 1 c.args.id.now) (rows_of (codes "kept") (state g.S.Store c.args.conn.now).now)) rows (state g.S.Store c.args.conn.now) (state g.S.Store c.one_kept_rows.new.conn)
    c.records_of.result it.0.same it.1 (rw c.deref.ensures.value at c.records_of.ensures.refused)
