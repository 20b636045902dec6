use Rattle.std.proofs.Common.{codes, subst, inl, inr, refl}
use Rattle.store_sql.specs.Inserts.{FailsToInsert}
use Rattle.store_rows.specs.Versions.{known}
use Rattle.store_migration.proofs.KitLemmas.{mark, IsAdded, state, still_has, passed_on, was_clean, Mark, mark_row, mark_record}
use Rattle.store_migration.proofs.FailLemmas.{fails_by, fails_here, clearing_marks, putting}
use Rattle.store_migration.proofs.marking.renew_mark.Goals as goal

pub insert_mark-requires : goal.insert_mark-requires
insert_mark-requires g c clean open' =
    let gone = c.in_ok-clear_table.ensures.removed clean in
    still_has mark (state g.S.Store (g.T.OpenTransaction.held c.args.tx.now)).now (state g.S.Store (g.T.OpenTransaction.held c.clear_table.new.tx)).now gone.0.schema
    (c.requires.mark (was_clean c.clear_table.ensures.survives clean) gone.1.was_open).has

pub returns-clause-marked : goal.returns-clause-marked
returns-clause-marked g c clean =
    let gone = c.in_ok-clear_table.ensures.removed (was_clean c.insert_mark.ensures.survives clean) in
    let s1 = state g.S.Store (g.T.OpenTransaction.held c.clear_table.new.tx) in
    let s2 = state g.S.Store (g.T.OpenTransaction.held c.insert_mark.new.tx) in
    record { cleared = s1.now; taken = gone.0; put = subst (λ (m : Mark). IsAdded (codes "mark") (mark_row m) s1.now s2.now) c.mark_row-row.ensures (c.in_ok-insert_mark.ensures.added clean).0 }

pub returns-in_err-clear_table-clause-failed : goal.returns-in_err-clear_table-clause-failed
returns-in_err-clear_table-clause-failed g c clean = passed_on _ _ _ c.from_residual.ensures.1 (fails_here clearing_marks (inl (refl, refl)) (c.in_err-clear_table.ensures.failed clean))

pub returns-in_err-insert_mark-clause-failed : goal.returns-in_err-insert_mark-clause-failed
returns-in_err-insert_mark-clause-failed g c clean =
    let removed = c.in_ok-clear_table.ensures.removed (was_clean c.insert_mark.ensures.survives clean) in
    let s1 = state g.S.Store (g.T.OpenTransaction.held c.clear_table.new.tx) in
    let s2 = state g.S.Store (g.T.OpenTransaction.held c.insert_mark.new.tx) in
    let fails = subst (λ (m : Mark). FailsToInsert (codes "mark") (mark_row m) s1 s2 c.in_err-insert_mark.field-0.0) c.mark_row-row.ensures (c.in_err-insert_mark.ensures.failed clean) in
    passed_on _ _ _ c.from_residual-in_err-insert_mark.ensures.1
    (fails_by (g.T.OpenTransaction.held c.clear_table.new.tx) (putting (codes "mark") (mark_row (mark_record known c.args.installs))) c.clear_table.ensures.survives (λ begun. removed.1.mode) (inr (_, removed.0, (refl, refl))) fails)

pub returns-clause-opened : goal.returns-clause-opened
returns-clause-opened g c clean = (c.in_ok-clear_table.ensures.removed (was_clean c.insert_mark.ensures.survives clean)).1.was_open
