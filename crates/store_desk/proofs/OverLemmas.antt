-- What comes of a session over an opened database.
use Rattle.std.proofs.Common.{◌≡◌, List, Option, IsTrue, inl, inr, sym, subst, arith}
use Rattle.std.specs.Prelude.{None}
use Rattle.std.proofs.Math.Logic.{∥∥₁_map}
use Rattle.sqlite.specs.Effect.{Database}
use Rattle.sqlite.specs.State.{HasCleanDisk, IsLive, Survives}
use Rattle.sqlite.specs.Held.{Held, state}
use Rattle.sqlite_trees.specs.declared.store.Store.{Ghosts}
use Rattle.dict_catalogue.specs.Steps.{Catalogue}
use Rattle.store_holdings.specs.Committed.{IsTreesOf}
use Rattle.store_holdings.proofs.OneLemmas.{database_once}
use Rattle.store_migration.specs.Migrated.{MayMigrate}
use Rattle.store_migration.specs.Spared.{SparesOthers}
use Rattle.store_migration.proofs.OtherLemmas.{others_then}
use Rattle.store_migration.proofs.StopLemmas.{stopped}
use Rattle.store_desk.specs.Adopted.{MayCommitBeside}
use Rattle.sqlite.specs.Tree.{Trees}
use Rattle.store_desk.specs.Desk.{HasBeside}
use Rattle.store_desk.specs.Over.{ConnectionKeepsBeside, ConnectionLeavesOneOf}

module _ {S : Type 0} (g : Ghosts S) (old new : Held S) (live : IsLive (state g old)) (stays : IsTrue (state g old).is_open → (state g old).may_leave (state g old).committed.trees) where
  -- what was opened leaves no catalogue more
  pub leaves_after : Survives (state g (record old { step_limit = None })) (state g new) (MayMigrate (state g old)) → (ms : List (Option Catalogue)) → ConnectionLeavesOneOf g old ms → ConnectionLeavesOneOf g new ms
  leaves_after survives ms leaves = stopped (state g (record old { step_limit = None })) (state g new) (λ open'. (live open').1) stays survives ms leaves

  -- and the tables of others as they were
  module _ (db : Database) (keeps : ConnectionKeepsBeside g old db) where
    beside_of : HasCleanDisk (state g old) → (trees : Trees) → MayCommitBeside (state g old) trees → HasBeside db trees
    beside_of early trees made =
        let was : Database = (state g old).committed in
        ∥∥₁_map (keeps early was.trees (stays made.0)) (λ it.
        let spared : SparesOthers db was = subst (SparesOthers db) (database_once it.0 was it.2 (live made.0).1 (sym it.1)) it.3 in
        (made.1.0, made.1.1, made.1.2, others_then db was made.1.0 spared made.1.3))

    pub beside_after : Survives (state g (record old { step_limit = None })) (state g new) (MayCommitBeside (state g old)) → ConnectionKeepsBeside g new db
    beside_after survives clean trees may =
        let early : HasCleanDisk (state g old) = omega (arith, survives.clean, clean) in
        elim (survives.crash clean trees may) as (λ _. HasBeside db trees) [
          | inl could ↦ keeps early trees could
          | inr made ↦ beside_of early trees made
        ]

    -- what was committed of an open database that showed what it had committed
    pub beside_made : (IsTrue (state g old).is_open → (state g old).now ≡ (state g old).committed) → (HasCleanDisk (state g new) → IsTrue (state g old).is_open)
        → Survives (state g (record old { step_limit = None })) (state g new) (IsTreesOf (SparesOthers (state g old).now)) → ConnectionKeepsBeside g new db
    beside_made settled opened survives clean trees may =
        let early : HasCleanDisk (state g old) = omega (arith, survives.clean, clean) in
        elim (survives.crash clean trees may) as (λ _. HasBeside db trees) [
          | inl could ↦ keeps early trees could
          | inr made ↦ beside_of early trees (opened clean, subst (λ (now : Database). IsTreesOf (SparesOthers now) trees) (settled (opened clean)) made)
        ]
