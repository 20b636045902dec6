use Rattle.std.proofs.Common.{◌≡◌, sym, ◌∙◌, ap, Some}
use Rattle.std.proofs.lemmas.Bool.{false≢true}
use Rattle.std.proofs.lemmas.Int.{to_z-of_z}
use mir.Val.{to_z, of_z}
use mir.Syntax.{w64}
use Rattle.store_rows.proofs.ApartLemmas.{last_twice, rowids_more}
use Rattle.store_rows.proofs.apart.RowidReader.rowid.Goals as goal

pub returns-then-is_last_rowid-clause-damaged : goal.returns-then-is_last_rowid-clause-damaged
returns-then-is_last_rowid-clause-damaged c = λ taken h once.
    let e : to_z w64 (of_z w64 c.args.rowid) ≡ c.args.rowid = to_z-of_z w64 c.args.rowid c.ranges.rowid in
    let same : c.args.self.now.last ≡ Some c.args.rowid = c.is_last_rowid.ensures.0 c.if-is_last_rowid.true ∙ ap Some e in
    last_twice taken c.args.rowid (sym h.last ∙ same) once

pub returns-clause-taken : goal.returns-clause-taken
returns-clause-taken c = λ taken h.
    let e : to_z w64 (of_z w64 c.args.rowid) ≡ c.args.rowid = to_z-of_z w64 c.args.rowid c.ranges.rowid in
    let apart : c.args.self.now.last ≡ Some c.args.rowid → ⊥ = λ same. false≢true (sym c.if-is_last_rowid.false ∙ c.is_last_rowid.ensures.1 (same ∙ ap Some (sym e))) in
    rowids_more c.args.self.now _ taken c.args.rowid apart (ap Some e) h
