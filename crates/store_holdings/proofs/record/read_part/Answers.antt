use Rattle.std.proofs.Common.{ap, refl, sym, subst, codes, filter, length, map, ◌∙◌}
use Rattle.std.specs.Prelude.{pos}
use Rattle.sqlite.specs.Held.{state}
use Rattle.sqlite.specs.State.{HasCleanDisk}
use Rattle.store_tables.specs.Effects.{rows_of}
use Rattle.store_sql.specs.ChosenParts.{is_numbered}
use Rattle.store_sql.specs.PartRecords.{part_columns, stored_part}
use Rattle.store_holdings.specs.Searches.{FailsToLookUp, number_in_column}
use Rattle.store_holdings.specs.Taken.{more_taken}
use Rattle.store_holdings.proofs.LookupLemmas.{list_fails}
use Rattle.store_holdings.proofs.PartLemmas.{failed_as, octets_told, one_read, part_back, part_readable, selected_as}
use Rattle.store_holdings.proofs.RecordLemmas.{column_back, column_is}
use Rattle.store_holdings.proofs.record.read_part.Goals as goal

pub returns-in-Ok-clause-value : goal.returns-in-Ok-clause-value
returns-in-Ok-clause-value g c clean text holds =
    let db = (state g.S.Store c.args.conn.now).now in
    let column = column_back c.args.number c.column_number.result c.column_number.ensures ∙ ap pos (column_is c.args.number holds.few) in
    let read = selected_as db (map stored_part c.in-Ok.parts.items) _ _ _ c.args.number c.args.part column refl (part_back c.args.part _ c.requires.few refl) (c.in-Ok.ensures.selected clean).0 in
    octets_told db c.args.number text holds c.args.part c.in-Ok.parts.items read c.last_octets.result c.last_octets.ensures.none c.last_octets.ensures.last

pub returns-in-Ok-clause-taken : goal.returns-in-Ok-clause-taken
returns-in-Ok-clause-taken g c clean text holds below =
    let db = (state g.S.Store c.args.conn.now).now in
    let column = column_back c.args.number c.column_number.result c.column_number.ensures ∙ ap pos (column_is c.args.number holds.few) in
    let read = selected_as db (map stored_part c.in-Ok.parts.items) _ _ _ c.args.number c.args.part column refl (part_back c.args.part _ c.requires.few refl) (c.in-Ok.ensures.selected clean).0 in
    let one = one_read db c.args.number text holds c.args.part c.in-Ok.parts.items read below in
    c.saturating_add.ensures ∙ ap (more_taken c.args.rows_taken.now) (ap length c.as_slice.ensures.value ∙ ap length one.1)

pub returns-in-Ok-clause-counted : goal.returns-in-Ok-clause-counted
returns-in-Ok-clause-counted g c = (length c.in-Ok.parts.items, c.saturating_add.ensures ∙ ap (more_taken c.args.rows_taken.now) (ap length c.as_slice.ensures.value))

pub returns-in-Err-clause-reads : goal.returns-in-Err-clause-reads
returns-in-Err-clause-reads g c =
    let old = state g.S.Store c.args.conn.now in
    let new = state g.S.Store c.parts_numbered.new.conn in
    let column = column_back c.args.number c.column_number.result c.column_number.ensures in
    let failed : HasCleanDisk new → FailsToLookUp (number_in_column c.args.number) old new c.fault_of_read.result = λ clean.
    let told = failed_as _ _ _ (number_in_column c.args.number) c.args.part column refl (part_back c.args.part _ c.requires.few refl) old new c.in-Err.error (c.in-Err.ensures.failed clean) in
    subst (FailsToLookUp (number_in_column c.args.number) old new) (sym c.fault_of_read.ensures.is)
    (list_fails (number_in_column c.args.number) (λ db. filter (is_numbered (pos (number_in_column c.args.number)) (pos 1) (pos c.args.part)) (rows_of (codes "dictcat_part") db)) part_columns old new
    (λ h. part_readable (number_in_column c.args.number) c.args.part old.now h) c.in-Err.error told) in
    record { same = λ clean. tt; failed = failed; kinds = c.fault_of_read.ensures.kind; mode = c.parts_numbered.ensures.mode; survives = c.parts_numbered.ensures.survives }
