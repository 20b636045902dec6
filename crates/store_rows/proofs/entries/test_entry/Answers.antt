use Rattle.std.specs.Prelude.{OnOk, Result, Ok, Err}
use Rattle.store_tables.specs.Records.{shown_as}
use Rattle.store_tables.specs.Typed.{owned_entry}
use Rattle.store_rows.proofs.RecordLemmas.{entry_told}
use Rattle.store_rows.proofs.entries.test_entry.Goals as goal

on_ok : {T E P Q : Type 0} (r : Result T E) → OnOk r P → (P → Q) → OnOk r Q
on_ok (Ok x) p f = f p
on_ok (Err e) p f = tt

pub returns-clause-is : goal.returns-clause-is
returns-clause-is c = on_ok c.test_line.result (rw c.as_str.ensures.value at c.test_line.ensures.is) (λ lawful.
    entry_told c.args.number c.args.ord c.in_ok-start.start c.in_ok-size.size c.args.text.now (shown_as (owned_entry c.args.row.now) c.args.shown.now)
    (c.is_number.ensures.same.0 c.if-not-is_number.false) (c.is_number-else-not-is_number.ensures.same.0 c.if-not-is_number-2.false) c.in_ok-start.ensures.number c.in_ok-size.ensures.number lawful)
