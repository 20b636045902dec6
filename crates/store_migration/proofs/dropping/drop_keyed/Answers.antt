use Rattle.std.proofs.Common.{◌∷◌, [], codes, refl}
use Rattle.store_tables.specs.Keyed.{word, gram}
use Rattle.store_migration.proofs.KitLemmas.{edition, state, own_has, passed_on, entry_table_of, none_more, was_clean, two_survive, three_survive}
use Rattle.store_migration.proofs.SpareLemmas.{as_form, behind, may_keyed}
use Rattle.store_migration.proofs.FailLemmas.{fails_at}
use Rattle.store_migration.proofs.dropping.drop_keyed.Goals as goal

pub drop_entry-requires : goal.drop_entry-requires
drop_entry-requires g c clean open' = own_has (entry_table_of c.args.form) (state g.S.Store (g.T.OpenTransaction.held c.args.tx.now)).now (c.requires clean open').0

pub drop_keyed_table-requires : goal.drop_keyed_table-requires
drop_keyed_table-requires g c clean open' =
    let s1 = state g.S.Store (g.T.OpenTransaction.held c.drop_entry.new.tx) in
    let one = c.in_ok-drop_entry.ensures.dropped clean in
    let own = c.requires (was_clean c.drop_entry.ensures.survives clean) one.1.was_open in
    own_has word s1.now (behind (entry_table_of c.args.form) (word ∷ gram ∷ edition ∷ []) (may_keyed c.args.form) _ s1.now own (as_form c.args.form _ s1.now one.0)).0

pub drop_keyed_table-requires-2 : goal.drop_keyed_table-requires-2
drop_keyed_table-requires-2 g c clean open' =
    let s2 = state g.S.Store (g.T.OpenTransaction.held c.drop_keyed_table.new.tx) in
    let clean1 = was_clean c.drop_keyed_table.ensures.survives clean in
    let one = c.in_ok-drop_entry.ensures.dropped clean1 in
    let two = c.in_ok-drop_keyed_table.ensures.dropped clean in
    let may = may_keyed c.args.form in
    let own = c.requires (was_clean c.drop_entry.ensures.survives clean1) one.1.was_open in
    let left = behind (entry_table_of c.args.form) (word ∷ gram ∷ edition ∷ []) may _ (state g.S.Store (g.T.OpenTransaction.held c.drop_entry.new.tx)).now own (as_form c.args.form _ _ one.0) in
    own_has gram s2.now (behind word (gram ∷ edition ∷ []) may.3 _ s2.now left two.0).0

pub drop_old_edition-requires : goal.drop_old_edition-requires
drop_old_edition-requires g c clean open' =
    let s3 = state g.S.Store (g.T.OpenTransaction.held c.drop_keyed_table-2.new.tx) in
    let clean2 = was_clean c.drop_keyed_table-2.ensures.survives clean in
    let clean1 = was_clean c.drop_keyed_table.ensures.survives clean2 in
    let one = c.in_ok-drop_entry.ensures.dropped clean1 in
    let two = c.in_ok-drop_keyed_table.ensures.dropped clean2 in
    let three = c.in_ok-drop_keyed_table-2.ensures.dropped clean in
    let may = may_keyed c.args.form in
    let own = c.requires (was_clean c.drop_entry.ensures.survives clean1) one.1.was_open in
    let left = behind (entry_table_of c.args.form) (word ∷ gram ∷ edition ∷ []) may _ (state g.S.Store (g.T.OpenTransaction.held c.drop_entry.new.tx)).now own (as_form c.args.form _ _ one.0) in
    own_has edition s3.now (behind gram (edition ∷ []) may.3.3 _ s3.now (behind word (gram ∷ edition ∷ []) may.3 _ (state g.S.Store (g.T.OpenTransaction.held c.drop_keyed_table.new.tx)).now left two.0) three.0).0

pub returns-clause-gone : goal.returns-clause-gone
returns-clause-gone g c clean =
    let clean3 = was_clean c.drop_old_edition.ensures.survives clean in
    let clean2 = was_clean c.drop_keyed_table-2.ensures.survives clean3 in
    let one = c.in_ok-drop_entry.ensures.dropped (was_clean c.drop_keyed_table.ensures.survives clean2) in
    (_, one.0, (_, (c.in_ok-drop_keyed_table.ensures.dropped clean2).0, (_, (c.in_ok-drop_keyed_table-2.ensures.dropped clean3).0, (_, (c.in_ok-drop_old_edition.ensures.dropped clean).0, refl))))

pub returns-in_err-drop_entry-clause-failed : goal.returns-in_err-drop_entry-clause-failed
returns-in_err-drop_entry-clause-failed g c clean =
    passed_on _ _ _ c.from_residual.ensures.1
    (fails_at (g.T.OpenTransaction.held c.args.tx.now) [] (codes "entry") (codes "word" ∷ codes "gram" ∷ codes "edition" ∷ []) refl (none_more _) (λ h. h) refl (c.in_err-drop_entry.ensures.failed clean))

pub returns-in_err-drop_keyed_table-clause-failed : goal.returns-in_err-drop_keyed_table-clause-failed
returns-in_err-drop_keyed_table-clause-failed g c clean =
    let one = c.in_ok-drop_entry.ensures.dropped (was_clean c.drop_keyed_table.ensures.survives clean) in
    passed_on _ _ _ c.from_residual-in_err-drop_keyed_table.ensures.1
    (fails_at (g.T.OpenTransaction.held c.drop_entry.new.tx) (codes "entry" ∷ []) (codes "word") (codes "gram" ∷ codes "edition" ∷ []) refl c.drop_entry.ensures.survives (λ begun. one.1.mode) (_, one.0, refl)
    (c.in_err-drop_keyed_table.ensures.failed clean))

pub returns-in_err-drop_keyed_table-2-clause-failed : goal.returns-in_err-drop_keyed_table-2-clause-failed
returns-in_err-drop_keyed_table-2-clause-failed g c clean =
    let early = was_clean c.drop_keyed_table-2.ensures.survives clean in
    let one = c.in_ok-drop_entry.ensures.dropped (was_clean c.drop_keyed_table.ensures.survives early) in
    let two = c.in_ok-drop_keyed_table.ensures.dropped early in
    passed_on _ _ _ c.from_residual-in_err-drop_keyed_table-2.ensures.1
    (fails_at (g.T.OpenTransaction.held c.drop_keyed_table.new.tx) (codes "entry" ∷ codes "word" ∷ []) (codes "gram") (codes "edition" ∷ []) refl (two_survive _ _ _ c.drop_entry.ensures.survives c.drop_keyed_table.ensures.survives)
    (λ begun. two.1.mode)
    (_, one.0, (_, two.0, refl)) (c.in_err-drop_keyed_table-2.ensures.failed clean))

pub returns-in_err-drop_old_edition-clause-failed : goal.returns-in_err-drop_old_edition-clause-failed
returns-in_err-drop_old_edition-clause-failed g c clean =
    let early = was_clean c.drop_old_edition.ensures.survives clean in
    let second = was_clean c.drop_keyed_table-2.ensures.survives early in
    let one = c.in_ok-drop_entry.ensures.dropped (was_clean c.drop_keyed_table.ensures.survives second) in
    let two = c.in_ok-drop_keyed_table.ensures.dropped second in
    let three = c.in_ok-drop_keyed_table-2.ensures.dropped early in
    passed_on _ _ _ c.from_residual-in_err-drop_old_edition.ensures.1
    (fails_at (g.T.OpenTransaction.held c.drop_keyed_table-2.new.tx) (codes "entry" ∷ codes "word" ∷ codes "gram" ∷ []) (codes "edition") [] refl
    (three_survive _ _ _ _ c.drop_entry.ensures.survives c.drop_keyed_table.ensures.survives c.drop_keyed_table-2.ensures.survives)
    (λ begun. three.1.mode) (_, one.0, (_, two.0, (_, three.0, refl))) (c.in_err-drop_old_edition.ensures.failed clean))
