-- the headers that were put in so far
use Rattle.std.proofs.Common.{◌≡◌, take, map, codes, true}
use Rattle.store_migration.proofs.KitLemmas.{HasCleanDisk, Survives, KeepsCommit, AreAdded, state}
use Rattle.store_migration.proofs.ReadLemmas.{owned_row}
use Rattle.store_migration.proofs.heading.put_headers.Given as goal

abbrev pub invariant-each : goal.invariant-each
invariant-each g l = record {
  same_reference : g.T.OpenTransaction.reference l.tx ≡ g.T.OpenTransaction.reference l.fn.tx;
  added : HasCleanDisk (state g.S.Store (g.T.OpenTransaction.held l.tx)) → AreAdded (codes "edition") (map owned_row (take l.header-index l.headers)) (state g.S.Store (g.T.OpenTransaction.held l.fn.tx)).now
      (state g.S.Store (g.T.OpenTransaction.held l.tx)).now;
  inside : HasCleanDisk (state g.S.Store (g.T.OpenTransaction.held l.tx)) → (state g.S.Store (g.T.OpenTransaction.held l.fn.tx)).in_transaction ≡ true → (state g.S.Store (g.T.OpenTransaction.held l.tx)).in_transaction ≡ true;
  keeps : HasCleanDisk (state g.S.Store (g.T.OpenTransaction.held l.tx)) → KeepsCommit (state g.S.Store (g.T.OpenTransaction.held l.fn.tx)) (state g.S.Store (g.T.OpenTransaction.held l.tx));
  survives : Survives (state g.S.Store (g.T.OpenTransaction.held l.fn.tx)) (state g.S.Store (g.T.OpenTransaction.held l.tx)) (λ _. ⊥);
}
