use Rattle.std.proofs.Common.{◌∙◌, get_or, subst}
use Rattle.std.proofs.lemmas.List.{take_all}
use Rattle.store_tables.specs.declared.tables.StoreTable.TheVariants.{Mark}
use Rattle.store_sql.specs.Turns.{DoneInTurn, FailedInTurn}
use Rattle.store_sql.specs.Statements.{make, Succeeds, FailsTo}
use Rattle.store_tables.proofs.MakeLemmas.{got, next_free, next_made, goes_then}
use Rattle.store_sql.proofs.TurnLemmas.{run_next, fails_next}
use Rattle.store_migration.proofs.KitLemmas.{HasCleanDisk, state, keeps_then, goes_keeps, passed_on, was_clean, two_survive}
use Rattle.store_migration.proofs.making.make_each.Goals as goal

pub create_table-requires : goal.create_table-requires
create_table-requires g c clean =
    let ts = c.args.tables.now in
    let i = c.each.table-index in
    next_free ts i (get_or ts i Mark) (got ts i Mark c.each-test.true) c.requires.apart _ _ (c.requires.ready (was_clean c.each.invariant.survives clean)) (c.each.invariant.keeps clean) (c.each.invariant.made clean)

pub returns-in_err-create_table-clause-failed : goal.returns-in_err-create_table-clause-failed
returns-in_err-create_table-clause-failed g c clean =
    let new = (g.T.OpenTransaction.held c.create_table.new.tx) in
    let ts = c.args.tables.now in
    let i = c.each.table-index in
    passed_on (FailedInTurn g.S.Store (λ table. Succeeds (make table)) (λ table. FailsTo (make table)) ts (g.T.OpenTransaction.held c.args.tx.now) new) _ _ c.from_residual.ensures.1
    (fails_next g.S.Store (λ table. Succeeds (make table)) (λ table. FailsTo (make table)) ts i (get_or ts i Mark) (got ts i Mark c.each-test.true) (g.T.OpenTransaction.held c.args.tx.now) (g.T.OpenTransaction.held c.each.tx) new _
    (c.each.invariant.ran (was_clean c.create_table.ensures.survives clean)) (c.in_err-create_table.ensures.failed clean) c.create_table.ensures.survives)

pub returns-clause-ran : goal.returns-clause-ran
returns-clause-ran g c clean =
    subst (λ l. DoneInTurn g.S.Store (λ table. Succeeds (make table)) l (g.T.OpenTransaction.held c.args.tx.now) (g.T.OpenTransaction.held c.each.tx)) (take_all c.each.table-index c.args.tables.now c.each-test.false)
    (c.each.invariant.ran clean)

pub each-preserved : goal.each-preserved
each-preserved g c =
    let ts = c.args.tables.now in
    let i = c.each.table-index in
    let was = λ (clean : HasCleanDisk (state g.S.Store (g.T.OpenTransaction.held c.create_table.new.tx))). was_clean c.create_table.ensures.survives clean in
    record {
      same_reference = c.create_table.ensures.same_reference ∙ c.each.invariant.same_reference;
      made = λ clean. next_made ts i (get_or ts i Mark) (got ts i Mark c.each-test.true) c.requires.apart _ _ (c.requires.ready (was_clean c.each.invariant.survives (was clean)))
          (c.each.invariant.keeps (was clean)) (c.each.invariant.made (was clean)) (state g.S.Store (g.T.OpenTransaction.held c.create_table.new.tx)) (c.in_ok-create_table.ensures.made clean).0;
      ran = λ clean. run_next g.S.Store (λ table. Succeeds (make table)) ts i (get_or ts i Mark) (got ts i Mark c.each-test.true) (g.T.OpenTransaction.held c.args.tx.now) (g.T.OpenTransaction.held c.each.tx)
          (g.T.OpenTransaction.held c.create_table.new.tx)
          (c.each.invariant.ran (was clean)) (c.in_ok-create_table.ensures.made clean) c.create_table.ensures.survives;
      goes = λ clean _. goes_then _ _ _ (c.each.invariant.keeps (was clean)) (c.in_ok-create_table.ensures.made clean).1;
      mode = λ clean _. (c.in_ok-create_table.ensures.made clean).1.mode;
      keeps = λ clean. keeps_then _ _ _ (c.each.invariant.keeps (was clean)) (goes_keeps _ _ (c.in_ok-create_table.ensures.made clean).1);
      survives = two_survive _ _ _ c.each.invariant.survives c.create_table.ensures.survives;
    }
