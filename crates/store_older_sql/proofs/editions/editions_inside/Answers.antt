use Rattle.std.proofs.Common.{codes, filter, subst, IsPermutation}
use Rattle.std.proofs.lemmas.Int.{to_z-of_z}
use mir.Syntax.{w64}
use Rattle.sqlite.specs.Held.{state}
use Rattle.store_tables.specs.Effects.{equals_number, rows_of}
use Rattle.store_sql.specs.Columns.{edition_columns}
use Rattle.store_sql.proofs.StreamLemmas.{fails_to_read_into}
use Rattle.store_older_sql.proofs.editions.editions_inside.Goals as goal

pub returns-clause-failed : goal.returns-clause-failed
returns-clause-failed g c clean =
    let old = state g.S.Store (g.T.OpenTransaction.held c.args.tx.now) in
    let new = state g.S.Store (g.T.OpenTransaction.held c.edition_rows.new.tx) in
    let rows = c.in_ok-rows.rows.items in
    let it = c.in_ok-rows.ensures.selected clean in
    let same = subst (λ n. IsPermutation (filter (equals_number 1 n) (rows_of (codes "edition") old.now)) rows) (to_z-of_z w64 c.args.number c.ranges.number) it.0.same in
    fails_to_read_into edition_columns (filter (equals_number 1 c.args.number) (rows_of (codes "edition") old.now)) rows old new c.records_of.result same it.1 (rw c.deref.ensures.value at c.records_of.ensures.refused)
