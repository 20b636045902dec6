use Rattle.std.proofs.Common.{◌≡◌, sym, subst, arith, length}
use Rattle.std.proofs.lemmas.Str.{IsUtf8-string_bytes}
use Rattle.sqlite.specs.Order.{column}
use Rattle.store_sql.specs.Columns.{HasColumns, kept_columns}
use Rattle.store_sql.proofs.RowLemmas.{cells, number_or_null}
use Rattle.store_sql.proofs.records.StoredRowKeptRecordStringRecord.from_row.Goals as goal

pub returns-clause-lawful : goal.returns-clause-lawful
returns-clause-lawful c =
    let row = c.args.row.now in
    let wide : length row ≡ 6 = omega (arith, c.column_count.ensures) in
    subst (HasColumns kept_columns) (sym (cells row 6 wide)) (
      (_, c.in_ok-cell.ensures.ok),
      (
        (_, c.in_ok-cell-2.ensures.ok, IsUtf8-string_bytes c.in_ok-cell-2.field-0),
        (
          (_, c.in_ok-cell-3.ensures.ok),
          (
            (_, c.in_ok-cell-4.ensures.ok, IsUtf8-string_bytes c.in_ok-cell-4.field-0),
            ((_, c.in_ok-cell-5.ensures.ok, IsUtf8-string_bytes c.in_ok-cell-5.field-0), (number_or_null (column row 5) c.in_ok-cell-6.field-0 c.in_ok-cell-6.ensures.ok, tt)),
          ),
        ),
      ),
    )
