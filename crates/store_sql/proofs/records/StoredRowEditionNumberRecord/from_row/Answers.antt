use Rattle.std.proofs.Common.{◌≡◌, sym, subst, arith, length}
use Rattle.store_sql.specs.Columns.{HasColumns, number_columns}
use Rattle.store_sql.proofs.RowLemmas.{cells}
use Rattle.store_sql.proofs.records.StoredRowEditionNumberRecord.from_row.Goals as goal

pub returns-clause-lawful : goal.returns-clause-lawful
returns-clause-lawful c =
    let row = c.args.row.now in
    let wide : length row ≡ 2 = omega (arith, c.column_count.ensures) in
    subst (HasColumns number_columns) (sym (cells row 2 wide))
    ((_, c.in_ok-rowid.ensures.ok), ((_, c.in_ok-number.ensures.ok), tt))
