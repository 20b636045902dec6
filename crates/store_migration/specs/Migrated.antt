-- What a migration makes of a database of an older version, and what it may leave.
use Rattle.std.specs.Prelude.{◌<◌, ◌≤◌, ℕ, IsTrue, []}
use Rattle.sqlite.specs.Effect.{Database}
use Rattle.sqlite.specs.Tree.{Trees}
use Rattle.sqlite.specs.State.{State}
use Rattle.dict_catalogue.specs.Steps.{Catalogue}
use Rattle.store_rows.specs.Tables.{Tables}
use Rattle.store_rows.specs.Stands.{Stands}
use Rattle.store_rows.specs.Versions.{known, layout_of}
use Rattle.store_holdings.specs.AllTables.{with_derived, as_version}
use Rattle.store_sql.specs.Readings.{KeepsAll, AreShownIn}
use Rattle.store_holdings.specs.Holds.{Holds, HasLayout, IsLeftAs}

-- Whatever records the tables of an older version keep that stand for a catalogue, those of the known one keep them, with the parts
-- of their files, and no orphans. (Of records that stand for none nothing is said: entries of no edition aren't carried over.)
pub record IsMigrated (version : ℕ) (old new : Database) : Type 0 where
  pub before : version < known
  pub own : HasLayout (layout_of known) new.schema
  pub keeps : (tables : Tables) (M : Catalogue) → KeepsAll (layout_of version) old (with_derived [] tables) → AreShownIn (layout_of version) tables.entries → Stands version tables M
      → KeepsAll (layout_of known) new (with_derived [] (as_version known tables))

-- the database holds the catalogue under a version before the known one
pub record HoldsOlder (db : Database) (M : Catalogue) : Type 0 where
  pub version : ℕ
  pub counted : 1 ≤ version
  pub before : version < known
  pub holds : Holds version db M

-- What a migration may commit: the store was open, and what it had committed held a catalogue under an older version, which
-- these trees hold under the known one.
abbrev pub MayMigrate : State → Trees → Type 0
MayMigrate s trees = IsTrue s.is_open × ((M : Catalogue) × HoldsOlder s.committed M × IsLeftAs known M trees)
