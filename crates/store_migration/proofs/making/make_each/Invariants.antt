use Rattle.std.proofs.Common.{◌≡◌, ◌<◌, IsTrue, take}
use Rattle.store_tables.specs.Effects.{GoesOn}
use Rattle.store_sql.specs.Turns.{DoneInTurn}
use Rattle.store_sql.specs.Statements.{make, Succeeds}
use Rattle.store_migration.proofs.KitLemmas.{HasCleanDisk, Survives, KeepsCommit, state, MadeInTurn}
use Rattle.store_migration.proofs.making.make_each.Given as goal

abbrev pub invariant-each : goal.invariant-each
invariant-each g l = record {
  same_reference : g.T.OpenTransaction.reference l.tx ≡ g.T.OpenTransaction.reference l.fn.tx;
  made : HasCleanDisk (state g.S.Store (g.T.OpenTransaction.held l.tx)) → MadeInTurn (take l.table-index l.tables) (state g.S.Store (g.T.OpenTransaction.held l.fn.tx)).now (state g.S.Store (g.T.OpenTransaction.held l.tx)).now;
  ran : HasCleanDisk (state g.S.Store (g.T.OpenTransaction.held l.tx)) → DoneInTurn g.S.Store (λ table. Succeeds (make table)) (take l.table-index l.tables) (g.T.OpenTransaction.held l.fn.tx) (g.T.OpenTransaction.held l.tx);
  goes : HasCleanDisk (state g.S.Store (g.T.OpenTransaction.held l.tx)) → 0 < l.table-index → GoesOn (state g.S.Store (g.T.OpenTransaction.held l.fn.tx)) (state g.S.Store (g.T.OpenTransaction.held l.tx));
  mode : HasCleanDisk (state g.S.Store (g.T.OpenTransaction.held l.tx)) → IsTrue (state g.S.Store (g.T.OpenTransaction.held l.fn.tx)).in_transaction → IsTrue (state g.S.Store (g.T.OpenTransaction.held l.tx)).in_transaction;
  keeps : HasCleanDisk (state g.S.Store (g.T.OpenTransaction.held l.tx)) → KeepsCommit (state g.S.Store (g.T.OpenTransaction.held l.fn.tx)) (state g.S.Store (g.T.OpenTransaction.held l.tx));
  survives : Survives (state g.S.Store (g.T.OpenTransaction.held l.fn.tx)) (state g.S.Store (g.T.OpenTransaction.held l.tx)) (λ _. ⊥);
}
