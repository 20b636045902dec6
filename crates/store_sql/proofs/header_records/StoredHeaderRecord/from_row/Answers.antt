use Rattle.std.proofs.Common.{◌≡◌, sym, subst, arith, length, ◌∙◌, rules}
use Rattle.std.proofs.lemmas.Str.{IsUtf8-string_bytes}
use Rattle.store_sql.specs.Columns.{HasColumns}
use Rattle.store_sql.proofs.RowLemmas.{cells}
use Rattle.store_sql.specs.HeaderRecords.{header_columns}
use Rattle.store_sql.proofs.header_records.StoredHeaderRecord.from_row.Goals as goal

pub returns-clause-read : goal.returns-clause-read
returns-clause-read c =
    let row = c.args.row.now in
    let wide : length row ≡ 5 = omega (arith, c.column_count.ensures) in
    cells row 5 wide ∙ rw (c.in_ok-cell-2.ensures.ok, c.in_ok-cell-3.ensures.ok, c.in_ok-cell-4.ensures.ok, c.in_ok-cell-5.ensures.ok) (rw c.in_ok-cell.ensures.ok (search rules))

pub returns-clause-lawful : goal.returns-clause-lawful
returns-clause-lawful c =
    let row = c.args.row.now in
    let wide : length row ≡ 5 = omega (arith, c.column_count.ensures) in
    subst (HasColumns header_columns) (sym (cells row 5 wide)) (
      (_, c.in_ok-cell.ensures.ok),
      (
        (_, c.in_ok-cell-2.ensures.ok),
        (
          (_, c.in_ok-cell-3.ensures.ok, IsUtf8-string_bytes c.in_ok-cell-3.field-0),
          ((_, c.in_ok-cell-4.ensures.ok, IsUtf8-string_bytes c.in_ok-cell-4.field-0), ((_, c.in_ok-cell-5.ensures.ok, IsUtf8-string_bytes c.in_ok-cell-5.field-0), tt)),
        ),
      ),
    )
