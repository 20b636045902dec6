use Rattle.std.proofs.Common.{◌∙◌, ◌++◌, ◌∷◌, [], map, ap, sym, subst}
use Rattle.store_rows.specs.Stored.{stored_line}
use Rattle.store_holdings.specs.Files.{entry_line}
use Rattle.store_migration.specs.MigrationParts.{FailsToWriteIndex}
use Rattle.store_migration.proofs.KitLemmas.{passed_on, EntryRecord}
use Rattle.store_migration.proofs.LineLemmas.{lines_next, write_later}
use Rattle.store_migration.proofs.lines.lines_of.Goals as goal

pub each-preserved : goal.each-preserved
each-preserved g c =
    let all = c.args.entries.now in
    let i = c.each.entry-index in
    let item = c.entry-item.result in
    let f = g.E.IndexedRecord.entry in
    let line = ap (λ (e : EntryRecord). stored_line (entry_line e) ++ 10 ∷ []) (c.said-said.ensures ∙ ap f c.entry-item.is) in
    c.in_ok-put_line.ensures.put ∙ ((λ j. c.each.invariant j ++ line j) ∙ sym (lines_next f all i item c.each-test.true))

pub returns-in_err-put_line-clause-failed : goal.returns-in_err-put_line-clause-failed
returns-in_err-put_line-clause-failed g c =
    let all = c.args.entries.now in
    let i = c.each.entry-index in
    let item = c.entry-item.result in
    let f = g.E.IndexedRecord.entry in
    let e = c.in_err-put_line.field-0.0 in
    let one = c.in_err-put_line.ensures.failed (f item) in
    passed_on (FailsToWriteIndex (map f all)) e c.from_residual.result c.from_residual.ensures.1
    (write_later f all i item c.each-test.true e (subst (λ (x : EntryRecord). FailsToWriteIndex (x ∷ []) e) (c.said-said.ensures ∙ ap f c.entry-item.is) one))
