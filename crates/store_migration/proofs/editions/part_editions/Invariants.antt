-- the editions whose files were put in so far, and their headers
use Rattle.std.proofs.Common.{◌≡◌, take, map, true}
use Rattle.store_tables.specs.Typed.{owned_header}
use Rattle.store_migration.specs.Steps.{AreParted}
use Rattle.store_migration.proofs.KitLemmas.{HasCleanDisk, Survives, KeepsCommit, state}
use Rattle.store_migration.proofs.editions.part_editions.Given as goal

abbrev pub invariant-each : goal.invariant-each
invariant-each g l = record {
  same_reference : g.T.OpenTransaction.reference l.tx ≡ g.T.OpenTransaction.reference l.fn.tx;
  parted : HasCleanDisk (state g.S.Store (g.T.OpenTransaction.held l.tx)) → AreParted l.layout (take l.number-index l.numbers) (map owned_header l.headers.items) (state g.S.Store (g.T.OpenTransaction.held l.fn.tx)).now
      (state g.S.Store (g.T.OpenTransaction.held l.tx)).now;
  inside : HasCleanDisk (state g.S.Store (g.T.OpenTransaction.held l.tx)) → (state g.S.Store (g.T.OpenTransaction.held l.fn.tx)).in_transaction ≡ true → (state g.S.Store (g.T.OpenTransaction.held l.tx)).in_transaction ≡ true;
  keeps : HasCleanDisk (state g.S.Store (g.T.OpenTransaction.held l.tx)) → KeepsCommit (state g.S.Store (g.T.OpenTransaction.held l.fn.tx)) (state g.S.Store (g.T.OpenTransaction.held l.tx));
  survives : Survives (state g.S.Store (g.T.OpenTransaction.held l.fn.tx)) (state g.S.Store (g.T.OpenTransaction.held l.tx)) (λ _. ⊥);
}
