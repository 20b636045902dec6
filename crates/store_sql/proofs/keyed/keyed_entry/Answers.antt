use Rattle.std.proofs.Common.{drop, sym, subst}
use Rattle.std.proofs.lemmas.Str.{IsUtf8-string_bytes}
use Rattle.sqlite.specs.Order.{Row}
use Rattle.store_sql.specs.Columns.{HasColumns}
use Rattle.store_sql.specs.Keyed.{keyed_entry_cells}
use Rattle.store_sql.proofs.RowLemmas.{cells}
use Rattle.store_sql.proofs.keyed.keyed_entry.Goals as goal

pub returns-clause-lawful : goal.returns-clause-lawful
returns-clause-lawful c =
    let row = c.args.row.now in
    let H : Row → Type 0 = λ r. HasColumns keyed_entry_cells (drop 1 r) in
    subst H (sym (cells row 9 c.requires)) (
      (_, c.in_ok-cell.ensures.ok),
      (
        (_, c.in_ok-cell-2.ensures.ok),
        (
          (_, c.in_ok-cell-3.ensures.ok, IsUtf8-string_bytes c.in_ok-cell-3.field-0),
          ((_, c.in_ok-cell-4.ensures.ok), ((_, c.in_ok-cell-5.ensures.ok), ((_, c.in_ok-cell-6.ensures.ok), ((_, c.in_ok-cell-7.ensures.ok), ((_, c.in_ok-cell-8.ensures.ok, IsUtf8-string_bytes c.in_ok-cell-8.field-0), tt))))),
        ),
      ),
    )
