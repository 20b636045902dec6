use Rattle.std.proofs.Common.{pos, inl, inr, subst}
use Rattle.std.proofs.lemmas.Int.{to_z-of_z}
use mir.Syntax.{w64}
use Rattle.sqlite.specs.Effect.{Database}
use Rattle.store_scans.specs.Files.{HasFile, HasNoFile}
use Rattle.store_sql.proofs.StreamLemmas.{passed_on}
use Rattle.store_scans.proofs.StateLemmas.{reads_then}
use Rattle.store_opening.proofs.StepLemmas.{before}
use Rattle.store_opening.proofs.texts.parted_edition.Goals as goal

pub returns-clause-reads : goal.returns-clause-reads
returns-clause-reads g c = reads_then _ _ _ c.header_numbered.ensures.reads c.read_file.ensures.reads

pub returns-in-Err-clause-reads : goal.returns-in-Err-clause-reads
returns-in-Err-clause-reads g c = reads_then _ _ _ c.header_numbered.ensures.reads c.read_file.ensures.reads

pub returns-in_err-row-clause-damaged : goal.returns-in_err-row-clause-damaged
returns-in_err-row-clause-damaged g c clean =
    passed_on _ _ c.from_residual.result c.from_residual.ensures.1 (λ is. inl (rw (to_z-of_z w64 c.args.number c.ranges.number) at c.in_err-row.ensures.damaged clean is))

pub returns-in-Err-clause-damaged : goal.returns-in-Err-clause-damaged
returns-in-Err-clause-damaged g c clean is =
    inr (subst (λ (d : Database). HasNoFile d c.args.number (pos 1)) (before c.read_file.ensures.reads c.in_ok-row.ensures.same clean).1
    (rw (to_z-of_z w64 c.args.number c.ranges.number) at c.in-Err.ensures.damaged clean is))

pub returns-clause-one : goal.returns-clause-one
returns-clause-one g c clean =
    let back = to_z-of_z w64 c.args.number c.ranges.number in
    let first = before c.read_file.ensures.reads c.in_ok-row.ensures.same clean in
    let text = subst (λ (d : Database). HasFile d c.args.number (pos 1) c.in-Ok.body.items) first.1 (rw back at c.in-Ok.ensures.whole clean) in
    ((c.in_ok-row.row, rw back at c.in_ok-row.ensures.one first.0, c.with_text.ensures.header), rw c.with_text.ensures.text text)
