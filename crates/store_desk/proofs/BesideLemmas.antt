-- What stands beside the product's tables is kept.
use Rattle.std.proofs.Common.{◌≡◌, ℕ, List, find, Some, inl, inr, sym, subst, arith}
use Rattle.std.specs.Prelude.{IsTrue}
use Rattle.std.proofs.Math.Logic.{∥∥₁_map}
use Rattle.sqlite.specs.Effect.{Database}
use Rattle.sqlite.specs.Held.{state}
use Rattle.sqlite.specs.State.{HasCleanDisk, IsLive, Survives}
use Rattle.sqlite.specs.Table.{Table}
use Rattle.sqlite_schema.specs.Names.{same_name}
use Rattle.sqlite_trees.specs.declared.store.Store.{Ghosts}
use Rattle.store_tables.specs.Tables.{item, kept, mark, member}
use Rattle.store_tables.specs.declared.tables.StoreTable.TheVariants as store
use Rattle.store_tables.proofs.MadeLemmas.{found_is, store_defined}
use Rattle.store_tables.specs.Effects.{table_in}
use Rattle.store_sql.specs.HeaderTable.{header}
use Rattle.store_sql.specs.PartTable.{part}
use Rattle.store_sql.proofs.HeaderDefinitionLemmas.{header_defined}
use Rattle.store_sql.proofs.PartDefinitionLemmas.{part_defined}
use Rattle.store_rows.specs.Versions.{known, layout_of}
use Rattle.store_holdings.specs.Committed.{IsTreesOf}
use Rattle.store_holdings.specs.Holds.{HasLayout}
use Rattle.store_holdings.proofs.OneLemmas.{database_once}
use Rattle.store_migration.specs.Spared.{IsNoneOf, SparesOthers, present_names}
use Rattle.store_migration.proofs.OtherLemmas.{apart_from, others_steady, others_then, stands_at}
use Rattle.store_commands.specs.Answers.{HoldsBy}
use Rattle.store_commands.specs.KeptRecords.{IsOther, SparesTablesOfOthers}
use Rattle.store_desk.specs.Desk.{DeskState, KeepsBeside}
use Rattle.store_desk.proofs.DeskLemmas.{clean_behind}

-- ---- tables of others, by their names

module _ (old new : Database) (own : HasLayout (layout_of known) old.schema) (spared : SparesTablesOfOthers old new) (name : List ℕ) (none : IsNoneOf present_names name) (other : Table) (there : table_in name old ≡ Some other) where
  is_other : IsOther old.schema other
  is_other = (
    apart_from mark (store_defined store.Mark) old own.tables.0 name none.0 other there,
    (
      apart_from item (store_defined store.Item) old own.tables.1.0 name none.1.0 other there,
      (
        apart_from member (store_defined store.Member) old own.tables.1.1.0 name none.1.1.0 other there,
        (
          apart_from kept (store_defined store.Kept) old own.tables.1.1.1.0 name none.1.1.1.0 other there,
          (
            apart_from header header_defined old own.tables.1.1.1.1.0 name none.1.1.1.1.0 other there,
            (
              apart_from part part_defined old own.tables.1.1.1.1.1.0 name none.1.1.1.1.1.0 other there,
              tt,
            ),
          ),
        ),
      ),
    ),
  )

  stands : find (λ (v : Table). same_name v.name name) old.schema.tables ≡ Some other
  stands = stands_at mark (store_defined store.Mark) old own.tables.0 name none.0 other there

  same_trees : new.trees other.tree ≡ old.trees other.tree
  same_trees = found_is (λ (v : Table). IsOther old.schema v → new.trees v.tree ≡ old.trees v.tree) (λ (v : Table). same_name v.name name) old.schema.tables other spared.others stands is_other

pub others_of : (old new : Database) → HasLayout (layout_of known) old.schema → SparesTablesOfOthers old new → SparesOthers old new
others_of old new own spared = others_steady old new spared.schema (same_trees old new own spared)

-- ---- a desk

module _ {S : Type 0} (g : Ghosts S) (old new : DeskState S) where
  -- nothing more may be left by a stop
  pub beside_on : Survives (state g old.conn) (state g new.conn) (λ _. ⊥) → (db : Database) → KeepsBeside g old db → KeepsBeside g new db
  beside_on survives db keeps clean trees may =
      keeps (clean_behind (state g old.conn) (state g new.conn) survives clean) trees (elim (survives.crash clean trees may) as (λ _. (state g old.conn).may_leave trees) [ inl h ↦ h | inr h ↦ absurd h ])

  -- a commit may be left, of a database in which tables of others are as they were
  pub beside_by : HoldsBy old.summary (state g old.conn) → IsLive (state g old.conn) → (IsTrue (state g old.conn).is_open → (state g old.conn).may_leave (state g old.conn).committed.trees)
      → Survives (state g old.conn) (state g new.conn) (λ trees. IsTrue (state g old.conn).is_open × IsTreesOf (SparesTablesOfOthers (state g old.conn).committed) trees)
      → (db : Database) → KeepsBeside g old db → KeepsBeside g new db
  beside_by holds sound stays survives db keeps clean trees may =
      let early : HasCleanDisk (state g old.conn) = omega (arith, survives.clean, clean) in
      elim (survives.crash clean trees may) as (λ _. ∥ IsTreesOf (SparesOthers db) trees ∥₁) [
        | inl h ↦ keeps early trees h
        | inr h ↦ (
            let was : Database = (state g old.conn).committed in
            ∥∥₁_map (keeps early was.trees (stays h.0)) (λ it.
            let spared : SparesOthers db was = subst (SparesOthers db) (database_once it.0 was it.2 (sound h.0).1 (sym it.1)) it.3 in
            (h.1.0, h.1.1, h.1.2, others_then db was h.1.0 spared (others_of was h.1.0 (holds early h.0).1.holds.own h.1.3)))
            )
      ]
