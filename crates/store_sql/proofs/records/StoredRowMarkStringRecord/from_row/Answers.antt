use Rattle.std.proofs.Common.{◌≡◌, sym, subst, arith, length}
use Rattle.std.proofs.lemmas.Str.{IsUtf8-string_bytes}
use Rattle.store_sql.specs.Columns.{HasColumns, mark_columns}
use Rattle.store_sql.proofs.RowLemmas.{cells}
use Rattle.store_sql.proofs.records.StoredRowMarkStringRecord.from_row.Goals as goal

pub returns-clause-lawful : goal.returns-clause-lawful
returns-clause-lawful c =
    let row = c.args.row.now in
    let wide : length row ≡ 5 = omega (arith, c.column_count.ensures) in
    subst (HasColumns mark_columns) (sym (cells row 5 wide))
    ((_, c.in_ok-cell.ensures.ok), ((_, c.in_ok-cell-2.ensures.ok), ((_, c.in_ok-cell-3.ensures.ok, IsUtf8-string_bytes c.in_ok-cell-3.field-0), ((_, c.in_ok-cell-4.ensures.ok), ((_, c.in_ok-cell-5.ensures.ok), tt)))))
