-- Which catalogue a database stands for, under which version.
use Rattle.std.specs.Prelude.{◌≡◌, ◌<◌, ℕ, false, IsTrue, List, []}
use Rattle.std.specs.List.{AllByRecursion}
use Rattle.sqlite.specs.Effect.{Database, IsDatabase}
use Rattle.sqlite.specs.Tree.{Trees}
use Rattle.sqlite.specs.State.{State}
use Rattle.sqlite.specs.Schema.{Schema}
use Rattle.store_tables.specs.Records.{Part}
use Rattle.store_tables.specs.Found.{HasOwn}
use Rattle.store_tables.specs.Names.{has_prefixed}
use Rattle.store_tables.specs.Room.{HasRoom, LeavesRoom}
use Rattle.store_sql.specs.PartTable.{part}
use Rattle.dict_catalogue.specs.Steps.{Catalogue}
use Rattle.store_rows.specs.Versions.{Layout, layout_of, IsVersion}
use Rattle.store_rows.specs.Tables.{Tables}
use Rattle.store_rows.specs.Stands.{Stands, has_number}
use Rattle.store_holdings.specs.AllTables.{with_derived}
use Rattle.store_sql.specs.Readings.{KeepsAll, AreShownIn, tables_of}
use Rattle.store_holdings.specs.Room.{MayBecomeKnown}

-- the tables of a layout are there, and beside an older one there is room for the table of the parts of files
pub record HasLayout (layout : Layout) (schema : Schema) : Type 0 where
  pub tables : AllByRecursion (HasOwn schema) (tables_of layout)
  pub room : MayBecomeKnown layout schema

-- Parts of no edition of the catalogue: of one that was to come, or of one that went. Before version 6 there are none.
pub record AreOrphans (version : ℕ) (M : Catalogue) (orphans : List Part) : Type 0 where
  pub apart : AllByRecursion (λ row. has_number M.items row.edition ≡ false) orphans
  pub later : version < 6 → orphans ≡ []

-- The database has the product's tables, as this version lays them out; and the records that they keep, in parts of files where
-- the version has these, stand for the catalogue, whatever orphans are beside them. Where a table has no column for what is shown, it
-- is the headword.
pub record Holds (version : ℕ) (db : Database) (M : Catalogue) : Type 0 where
  pub own : HasLayout (layout_of version) db.schema
  pub tables : Tables
  pub orphans : List Part
  pub keeps : KeepsAll (layout_of version) db (with_derived orphans tables)
  pub shown : AreShownIn (layout_of version) tables.entries
  pub stands : Stands version tables M
  pub apart : AreOrphans version M orphans

-- the database holds the catalogue under a version that is known
pub record IsHeld (db : Database) (M : Catalogue) : Type 0 where
  pub version : ℕ
  pub known : IsVersion version
  pub holds : Holds version db M

-- the database holds no catalogue under this version
abbrev pub HoldsNoneAs : ℕ → Database → Type 0
HoldsNoneAs version db = (M : Catalogue) → Holds version db M → ⊥

-- the database holds no catalogue, under no version that is known
abbrev pub HoldsNone : Database → Type 0
HoldsNone db = (M : Catalogue) → IsHeld db M → ⊥

-- the store is open, what it shows is committed, and holds the catalogue, under this version
pub record Rests (version : ℕ) (s : State) (M : Catalogue) : Type 0 where
  pub is_open : IsTrue s.is_open
  pub settled : s.now ≡ s.committed
  pub holds : Holds version s.committed M

-- trees that a stop may leave, from which the catalogue is opened again: as those of this version
abbrev pub IsLeftAs : ℕ → Catalogue → Trees → Type 0
IsLeftAs version M trees = (db : Database) × (trees ≡ db.trees) × IsDatabase db × Holds version db M

-- and as those of any that is known
abbrev pub IsLeft : Catalogue → Trees → Type 0
IsLeft M trees = (db : Database) × (trees ≡ db.trees) × IsDatabase db × IsHeld db M

-- there is room for all tables, that of the parts among them, and no name begins as those that are kept for the product
pub record HasPlace (schema : Schema) : Type 0 where
  pub room : HasRoom schema
  pub unprefixed : has_prefixed schema ≡ false
  pub later : LeavesRoom schema (part 0)
