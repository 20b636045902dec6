use Rattle.std.proofs.Common.{◌∙◌, [], ◌∷◌, map, codes, ap, sym, subst, inl, inr, refl}
use Rattle.store_sql.specs.Columns.{edition_columns}
use Rattle.store_sql.specs.Encodings.{stored_edition}
use Rattle.store_sql.specs.Reads.{IsSelection}
use Rattle.store_sql.specs.declared.records.ReadError.{ReadError}
use Rattle.store_migration.specs.MigrationParts.{FailsBy}
use Rattle.store_migration.proofs.KitLemmas.{equals_number, state, passed_on, signed_back}
use Rattle.store_migration.proofs.FailLemmas.{fails_by, fails_here, choosing, reading}
use Rattle.store_migration.proofs.ReadLemmas.{edition_in, none_read, one_read}
use Rattle.store_migration.proofs.editions.read_record.Goals as goal

pub returns-clause-edition : goal.returns-clause-edition
returns-clause-edition g c clean =
    let it = rw (signed_back _ c.ranges.number) at (c.in_ok-editions.ensures.selected clean) in
    (one_read _ _ _ it.0 (edition_in c.in_ok-row.row) (ap (map edition_in) c.in_ok-row.ensures.one), it.1)

pub returns-in_err-editions-clause-failed : goal.returns-in_err-editions-clause-failed
returns-in_err-editions-clause-failed g c clean =
    passed_on _ _ _ c.from_residual.ensures.1 (fails_here (reading (codes "edition") edition_columns c.args.number) (inl (refl, refl)) (rw (signed_back _ c.ranges.number) at (c.in_err-editions.ensures.failed clean)))

pub returns-in_err-row-clause-failed : goal.returns-in_err-row-clause-failed
returns-in_err-row-clause-failed g c clean =
    let s1 = state g.S.Store (g.T.OpenTransaction.held c.editions_inside.new.tx) in
    let n = c.args.number in
    let items = c.in_ok-editions.editions.items in
    let it = rw (signed_back n c.ranges.number) at (c.in_ok-editions.ensures.selected clean) in
    let none = subst (λ d. IsSelection (codes "edition") (equals_number 1 n) (1 ∷ []) d (map stored_edition items)) (sym it.1.0.now_is) it.0 in
    let why = c.in_err-row.ensures.none in
    passed_on _ _ _ c.from_residual-in_err-row.ensures.1
    (fails_by (g.T.OpenTransaction.held c.editions_inside.new.tx) (choosing n) c.editions_inside.ensures.survives (λ h. it.1.0.mode ∙ h) (inr (refl, it.1.0.now_is))
    (subst (λ (e : ReadError). FailsBy (choosing n) s1 s1 e) (sym why.0) (none_read n s1.now items none why.1)))
