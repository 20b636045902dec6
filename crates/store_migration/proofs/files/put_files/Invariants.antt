-- the parts that were put in so far
use Rattle.std.proofs.Common.{◌≡◌, take, map, codes, true}
use Rattle.store_migration.specs.Written.{parts_in}
use Rattle.store_migration.proofs.KitLemmas.{HasCleanDisk, Survives, KeepsCommit, AreAdded, state, part_row}
use Rattle.store_migration.proofs.files.put_files.Given as goal

abbrev pub invariant-each : goal.invariant-each
invariant-each g l = record {
  same_reference : g.T.OpenTransaction.reference l.tx ≡ g.T.OpenTransaction.reference l.fn.tx;
  added : HasCleanDisk (state g.S.Store (g.T.OpenTransaction.held l.tx)) → AreAdded (codes "dictcat_part") (map part_row (take l.place (parts_in l.files))) (state g.S.Store (g.T.OpenTransaction.held l.fn.tx)).now
      (state g.S.Store (g.T.OpenTransaction.held l.tx)).now;
  inside : HasCleanDisk (state g.S.Store (g.T.OpenTransaction.held l.tx)) → (state g.S.Store (g.T.OpenTransaction.held l.fn.tx)).in_transaction ≡ true → (state g.S.Store (g.T.OpenTransaction.held l.tx)).in_transaction ≡ true;
  keeps : HasCleanDisk (state g.S.Store (g.T.OpenTransaction.held l.tx)) → KeepsCommit (state g.S.Store (g.T.OpenTransaction.held l.fn.tx)) (state g.S.Store (g.T.OpenTransaction.held l.tx));
  survives : Survives (state g.S.Store (g.T.OpenTransaction.held l.fn.tx)) (state g.S.Store (g.T.OpenTransaction.held l.tx)) (λ _. ⊥);
}
