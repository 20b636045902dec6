use Rattle.std.proofs.Common.{codes, filter}
use Rattle.std.proofs.lemmas.Int.{to_z-of_z}
use mir.Syntax.{w64}
use Rattle.sqlite.specs.Held.{state}
use Rattle.store_tables.specs.Effects.{rows_of}
use Rattle.store_sql.proofs.StreamLemmas.{fails_to_read_into}
use Rattle.store_sql.specs.ChosenParts.{is_numbered}
use Rattle.store_sql.specs.PartRecords.{part_columns}
use Rattle.store_sql.proofs.part_one.parts_numbered.Goals as goal

pub returns-clause-failed : goal.returns-clause-failed
returns-clause-failed g c clean =
    let old = state g.S.Store c.args.conn.now in
    let new = state g.S.Store c.part_rows.new.conn in
    let rows = c.in_ok-rows.rows.items in
    let it = rw (to_z-of_z w64 c.args.edition c.ranges.edition, to_z-of_z w64 c.args.file c.ranges.file, to_z-of_z w64 c.args.number c.ranges.number) at (c.in_ok-rows.ensures.selected clean) in
    fails_to_read_into part_columns (filter (is_numbered c.args.edition c.args.file c.args.number) (rows_of (codes "dictcat_part") old.now)) rows old new c.records_of.result it.0.same it.1
    (rw c.deref.ensures.value at c.records_of.ensures.refused)
