use Rattle.std.proofs.Common.{◌≡◌, sym, subst, arith, length}
use Rattle.std.proofs.lemmas.Str.{IsUtf8-string_bytes}
use Rattle.store_sql.specs.Columns.{HasColumns, member_columns}
use Rattle.store_sql.proofs.RowLemmas.{cells}
use Rattle.store_sql.proofs.records.StoredRowMemberStringRecord.from_row.Goals as goal

pub returns-clause-lawful : goal.returns-clause-lawful
returns-clause-lawful c =
    let row = c.args.row.now in
    let wide : length row ≡ 4 = omega (arith, c.column_count.ensures) in
    subst (HasColumns member_columns) (sym (cells row 4 wide))
    ((_, c.in_ok-cell.ensures.ok), ((_, c.in_ok-cell-2.ensures.ok, IsUtf8-string_bytes c.in_ok-cell-2.field-0), ((_, c.in_ok-cell-3.ensures.ok), ((_, c.in_ok-cell-4.ensures.ok, IsUtf8-string_bytes c.in_ok-cell-4.field-0), tt))))
