use Rattle.std.proofs.Common.{◌≡◌, sym, subst, arith, length}
use Rattle.store_sql.specs.Columns.{HasColumns}
use Rattle.store_sql.specs.Keyed.{old_entry_columns}
use Rattle.store_sql.proofs.RowLemmas.{first_and_rest}
use Rattle.store_sql.proofs.keyed.StoredRowOldEntryStringVecU8Record.from_row.Goals as goal

pub returns-clause-lawful : goal.returns-clause-lawful
returns-clause-lawful c =
    let row = c.args.row.now in
    let wide : length row ≡ 8 = omega (arith, c.column_count.ensures) in
    subst (HasColumns old_entry_columns) (sym (first_and_rest row 7 wide)) ((_, c.in_ok-rowid.ensures.ok), c.in_ok-value.ensures.lawful)
