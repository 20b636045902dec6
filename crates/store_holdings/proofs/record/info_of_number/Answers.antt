use Rattle.std.proofs.Common.{ap, sym, subst, length, map, ◌∙◌, Some, string_bytes, option_map}
use Rattle.std.specs.Prelude.{ℤ, pos}
use Rattle.store_sql.specs.Infos.{headers_with, informed, info_columns}
use Rattle.store_sql.specs.Reads.{FailsToList}
use Rattle.store_holdings.specs.Searches.{FailsToLookUp, number_in_column}
use Rattle.store_holdings.specs.Taken.{more_taken}
use Rattle.store_holdings.proofs.LookupLemmas.{list_fails}
use Rattle.store_holdings.proofs.RecordLemmas.{info_told, last_told, informed_rows, column_back, column_is}
use Rattle.store_holdings.proofs.record.info_of_number.Goals as goal
use Rattle.sqlite.specs.Held.{state}
use Rattle.sqlite.specs.State.{HasCleanDisk}

pub returns-in-Ok-clause-value : goal.returns-in-Ok-clause-value
returns-in-Ok-clause-value g c clean reading one =
    let column = column_back c.args.number c.column_number.result c.column_number.ensures ∙ ap pos (column_is c.args.number one.few) in
    let read = info_told (state g.S.Store c.args.conn.now).now c.args.number reading one c.in-Ok.infos.items _ column (c.in-Ok.ensures.selected clean).0 in
    ap (option_map string_bytes) (last_told c.in-Ok.infos.items read.0 c.last_info.result read.1 c.last_info.ensures) ∙ ap Some read.2

pub returns-in-Err-clause-reads : goal.returns-in-Err-clause-reads
returns-in-Err-clause-reads g c =
    let old = state g.S.Store c.args.conn.now in
    let new = state g.S.Store c.infos_numbered.new.conn in
    let column = column_back c.args.number c.column_number.result c.column_number.ensures in
    let failed : HasCleanDisk new → FailsToLookUp (number_in_column c.args.number) old new c.fault_of_read.result = λ clean.
    subst (FailsToLookUp (number_in_column c.args.number) old new) (sym c.fault_of_read.ensures.is)
    (list_fails (number_in_column c.args.number) (λ db. map informed (headers_with (pos (number_in_column c.args.number)) db)) info_columns old new
    (λ h. informed_rows (headers_with (pos (number_in_column c.args.number)) old.now) h.headers) c.in-Err.error
    (subst (λ (z : ℤ). FailsToList info_columns (map informed (headers_with z old.now)) old new c.in-Err.error) column (c.in-Err.ensures.failed clean))) in
    record { same = λ clean. tt; failed = failed; kinds = c.fault_of_read.ensures.kind; mode = c.infos_numbered.ensures.mode; survives = c.infos_numbered.ensures.survives }

pub returns-in-Ok-clause-taken : goal.returns-in-Ok-clause-taken
returns-in-Ok-clause-taken g c clean reading one =
    let column = column_back c.args.number c.column_number.result c.column_number.ensures ∙ ap pos (column_is c.args.number one.few) in
    let read = info_told (state g.S.Store c.args.conn.now).now c.args.number reading one c.in-Ok.infos.items _ column (c.in-Ok.ensures.selected clean).0 in
    c.saturating_add.ensures ∙ ap (more_taken c.args.rows_taken.now) (ap length c.as_slice.ensures.value ∙ ap length read.1)
