-- Indexes of the editions that a database holds.
use Rattle.std.specs.Prelude.{◌≡◌, ℕ, pos, nat_eq, List, map, Some, if◌then◌else◌}
use Rattle.std.specs.List.{AllByRecursion}
use Rattle.sqlite.specs.Effect.{Database}
use Rattle.store_tables.specs.Records.{EntryRecord}
use Rattle.dict_index.specs.Edition.{Edition}
use Rattle.dict_catalogue.specs.Items.{Stored, name_of, editions_of}
use Rattle.dict_catalogue.specs.Steps.{Catalogue}
use Rattle.store_rows.specs.Tables.{Tables}
use Rattle.store_rows.specs.Stands.{HoldsEdition}
use Rattle.store_rows.specs.Versions.{Layout}
use Rattle.store_search.specs.Entries.{Indexed, entry_of}
use Rattle.store_holdings.specs.Indexes.{entries_under}
use Rattle.store_holdings.specs.Holds.{Holds}
use Rattle.store_scans.specs.Entries.{HasEntries}
use Rattle.store_scans.specs.Indexing.{indexed_of}

-- The tables hold the edition, and under its number stands an index of the lines that they hold of it.
pub record HasIndex (tables : Tables) (owner : List ℕ) (indexes : List (ℕ × List Indexed)) (stored : Stored Edition) : Type 0 where
  pub held : HoldsEdition tables owner stored
  pub stands : entries_under stored.number indexes ≡ Some (map entry_of held.reading.lines)

-- The database holds the catalogue under this version, and under the number of each of its editions, current and former, stands an
-- index of the lines that its tables hold of that edition.
pub record IsHeldIndexed (version : ℕ) (db : Database) (M : Catalogue) (indexes : List (ℕ × List Indexed)) : Type 0 where
  pub holds : Holds version db M
  pub each : AllByRecursion (λ item. AllByRecursion (HasIndex holds.tables (name_of item) indexes) (editions_of item)) M.items

-- ---- as the rows are read

-- these entries were put under a number
abbrev pub HasPut : ℕ → List Indexed → List (ℕ × List Indexed) → List (ℕ × List Indexed) → Type 0
HasPut number entries old new = (q : ℕ) → entries_under q new ≡ (if nat_eq number q then Some entries else entries_under q old)

-- Under the number stand the entries that the rows of its edition are.
pub record HasRowsIndexed (layout : Layout) (db : Database) (indexes : List (ℕ × List Indexed)) (number : ℕ) : Type 0 where
  pub given : List EntryRecord
  pub entries : HasEntries layout db (pos number) given
  pub stands : entries_under number indexes ≡ Some (map indexed_of given)

-- so it is under each of these numbers
abbrev pub HaveRowsIndexed : Layout → Database → List ℕ → List (ℕ × List Indexed) → Type 0
HaveRowsIndexed layout db numbers indexes = AllByRecursion (HasRowsIndexed layout db indexes) numbers
