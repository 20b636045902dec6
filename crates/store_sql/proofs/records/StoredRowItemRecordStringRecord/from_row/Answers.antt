use Rattle.std.proofs.Common.{◌≡◌, sym, subst, arith, length, ◌∙◌, rules, string_bytes}
use Rattle.std.proofs.lemmas.Str.{IsUtf8-string_bytes}
use Rattle.sqlite.specs.declared.types.Value.TheVariants.{Int, Text as Words}
use Rattle.sqlite.specs.Order.{column}
use Rattle.store_sql.specs.Columns.{HasColumns, item_columns}
use Rattle.store_sql.proofs.RowLemmas.{cells, number_or_null, text_or_null, read_or_null}
use Rattle.store_sql.proofs.records.StoredRowItemRecordStringRecord.from_row.Goals as goal

pub returns-clause-read : goal.returns-clause-read
returns-clause-read c =
    let row = c.args.row.now in
    let wide : length row ≡ 7 = omega (arith, c.column_count.ensures) in
    cells row 7 wide ∙ rw (
      c.in_ok-cell-2.ensures.ok,
      c.in_ok-cell-3.ensures.ok,
      c.in_ok-cell-4.ensures.ok,
      read_or_null (λ s. Words (string_bytes s)) (column row 4) c.in_ok-cell-5.field-0 c.in_ok-cell-5.ensures.ok,
      read_or_null Int (column row 5) c.in_ok-cell-6.field-0 c.in_ok-cell-6.ensures.ok,
      read_or_null Int (column row 6) c.in_ok-cell-7.field-0 c.in_ok-cell-7.ensures.ok,
    ) (rw c.in_ok-cell.ensures.ok (search rules))

pub returns-clause-lawful : goal.returns-clause-lawful
returns-clause-lawful c =
    let row = c.args.row.now in
    let wide : length row ≡ 7 = omega (arith, c.column_count.ensures) in
    subst (HasColumns item_columns) (sym (cells row 7 wide)) (
      (_, c.in_ok-cell.ensures.ok),
      (
        (_, c.in_ok-cell-2.ensures.ok),
        (
          (_, c.in_ok-cell-3.ensures.ok, IsUtf8-string_bytes c.in_ok-cell-3.field-0),
          (
            (_, c.in_ok-cell-4.ensures.ok),
            (
              text_or_null (column row 4) c.in_ok-cell-5.field-0 c.in_ok-cell-5.ensures.ok,
              (number_or_null (column row 5) c.in_ok-cell-6.field-0 c.in_ok-cell-6.ensures.ok, (number_or_null (column row 6) c.in_ok-cell-7.field-0 c.in_ok-cell-7.ensures.ok, tt)),
            ),
          ),
        ),
      ),
    )
