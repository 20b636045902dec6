use Rattle.std.proofs.Common.{◌∷◌, [], codes, refl}
use Rattle.store_older_sql.specs.declared.entries.EntryForm.TheVariants as form
use Rattle.store_migration.proofs.KitLemmas.{edition, state, own_has, passed_on, entry_table_of, none_more, was_clean}
use Rattle.store_migration.proofs.SpareLemmas.{behind, may_plain}
use Rattle.store_migration.proofs.FailLemmas.{fails_at}
use Rattle.store_migration.proofs.dropping.drop_plain.Goals as goal

pub drop_entry-requires : goal.drop_entry-requires
drop_entry-requires g c clean open' = own_has (entry_table_of form.Plain) (state g.S.Store (g.T.OpenTransaction.held c.args.tx.now)).now (c.requires clean open').0

pub drop_old_edition-requires : goal.drop_old_edition-requires
drop_old_edition-requires g c clean open' =
    let s1 = state g.S.Store (g.T.OpenTransaction.held c.drop_entry.new.tx) in
    let one = c.in_ok-drop_entry.ensures.dropped clean in
    own_has edition s1.now (behind (entry_table_of form.Plain) (edition ∷ []) may_plain _ s1.now (c.requires (was_clean c.drop_entry.ensures.survives clean) one.1.was_open) one.0).0

pub returns-clause-gone : goal.returns-clause-gone
returns-clause-gone g c clean = (_, (c.in_ok-drop_entry.ensures.dropped (was_clean c.drop_old_edition.ensures.survives clean)).0, (_, (c.in_ok-drop_old_edition.ensures.dropped clean).0, refl))

pub returns-in_err-drop_entry-clause-failed : goal.returns-in_err-drop_entry-clause-failed
returns-in_err-drop_entry-clause-failed g c clean =
    passed_on _ _ _ c.from_residual.ensures.1 (fails_at (g.T.OpenTransaction.held c.args.tx.now) [] (codes "entry") (codes "edition" ∷ []) refl (none_more _) (λ h. h) refl (c.in_err-drop_entry.ensures.failed clean))

pub returns-in_err-drop_old_edition-clause-failed : goal.returns-in_err-drop_old_edition-clause-failed
returns-in_err-drop_old_edition-clause-failed g c clean =
    let one = c.in_ok-drop_entry.ensures.dropped (was_clean c.drop_old_edition.ensures.survives clean) in
    passed_on _ _ _ c.from_residual-in_err-drop_old_edition.ensures.1
    (fails_at (g.T.OpenTransaction.held c.drop_entry.new.tx) (codes "entry" ∷ []) (codes "edition") [] refl c.drop_entry.ensures.survives (λ begun. one.1.mode) (_, one.0, refl) (c.in_err-drop_old_edition.ensures.failed clean))
