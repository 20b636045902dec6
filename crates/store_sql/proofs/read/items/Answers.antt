use Rattle.std.proofs.Common.{codes}
use Rattle.sqlite.specs.Held.{state}
use Rattle.store_tables.specs.Effects.{rows_of}
use Rattle.store_sql.specs.Columns.{item_columns}
use Rattle.store_sql.proofs.StreamLemmas.{fails_to_read_into}
use Rattle.store_sql.proofs.read.items.Goals as goal

pub returns-clause-failed : goal.returns-clause-failed
returns-clause-failed g c clean =
    let rows = c.in_ok-rows.rows.items in
    let it = c.in_ok-rows.ensures.listed clean in
    fails_to_read_into item_columns (rows_of (codes "item") (state g.S.Store c.args.conn.now).now) rows (state g.S.Store c.args.conn.now) (state g.S.Store c.item_rows.new.conn) c.records_of.result it.0.same it.1
    (rw c.deref.ensures.value at c.records_of.ensures.refused)
