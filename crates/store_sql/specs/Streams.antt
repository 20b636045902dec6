-- What is read row by row, and what it has given so far.
use Rattle.std.specs.Prelude.{◌≡◌, ◌⊎◌, false, List, [], ◌∷◌, ◌++◌, Option, Some, Result, IfErr, ℤ}
use Rattle.sqlite.specs.declared.types.Value.TheVariants.{Int}
use Rattle.sqlite.specs.declared.error.Error.{Error}
use Rattle.sqlite.specs.declared.error.Error.TheVariants.{SqliteFailure}
use Rattle.sqlite.specs.declared.error.ErrorCode.TheVariants.{OutOfMemory}
use Rattle.sqlite.specs.Order.{Row}
use Rattle.sqlite.specs.State.{HasCleanDisk, IsUnchanged, Survives}
use Rattle.sqlite.specs.Held.{Held, state}
use Rattle.sqlite.specs.Given as kit
use Rattle.sqlite_trees.specs.declared.store.Store.{Ghosts}
use Rattle.store_tables.specs.declared.tables.StoreTable.{StoreTable}
use Rattle.store_tables.specs.Tables.{edition, entry, kept, table_of}
use Rattle.store_tables.specs.Effects.{equals_number, FailsToRead}
use Rattle.store_sql.specs.Columns.{Content, HasColumns}
use Rattle.store_sql.specs.declared.records.ReadError.{ReadError}
use Rattle.store_sql.specs.declared.records.ReadError.TheVariants.{NoRecord, Store}
use Rattle.store_sql.specs.Reads.{IsNumbering, select_some_entries, select_kept, select_kept_by_id, select_by_rowid, select_numbers}
use Rattle.store_sql.specs.RowQueries.{RowQuery, listing_query, selection_query, HasGivenRows, GivesOnRows}

-- which rows of a large table are read, one at a time
pub data Scan : Type 0 where
  EntriesOf : ℤ → Scan
  AllKept : Scan
  KeptById : Scan
  ByRowid : StoreTable → Scan
  EditionNumbers : Scan

-- the query that reads them
abbrev pub scan_query : Scan → RowQuery
scan_query (EntriesOf number) = selection_query select_some_entries (Int number ∷ []) entry (equals_number 1 number) (2 ∷ [])
scan_query AllKept = listing_query select_kept kept (2 ∷ [])
scan_query KeptById = listing_query select_kept_by_id kept (1 ∷ [])
scan_query (ByRowid table) = listing_query (select_by_rowid table) (table_of table) (0 ∷ [])
scan_query EditionNumbers = record { text = select_numbers; values = []; table = edition; IsWhole = λ db rows. IsNumbering db rows }

module _ {S : Type 0} (g : Ghosts S) where
  -- the connection reads this, and has given these rows
  abbrev pub HasGiven : Scan → Held S → List Row → Type 0
  HasGiven what h given = HasGivenRows g (scan_query what) h given

  -- one more row is given, or those so far are all
  abbrev pub GivesOn : Scan → Held S → List Row → Option Row → Type 0
  GivesOn what new given row = GivesOnRows g (scan_query what) new given row

  -- the next row was taken, behind which the reading stands now
  abbrev pub PassesRow : Scan → Held S → Held S → List Row → Row → Type 0
  PassesRow what old new given row = IsUnchanged (state g old) (state g new) × HasGiven what new (given ++ row ∷ [])

  -- The next row is no record; or memory was refused for its record; or the store failed or the limit was met, and nothing more is given.
  abbrev pub FailsToGive : List Content → Scan → Held S → Held S → List Row → ReadError → Type 0
  FailsToGive columns what old new given NoRecord = (row : Row) × PassesRow what old new given row × ¬ HasColumns columns row
  FailsToGive columns what old new given (Store e) =
      (FailsToRead (state g old) (state g new) e × kit.IsEnded new) ⊎ ((e ≡ SqliteFailure OutOfMemory) × (row : Row) × PassesRow what old new given row)

  -- what a connection is left as where a scan does not begin
  pub record IsNotBegun {X : Type 0} (old : Held S) (result : Result X Error) (new : Held S) : Type 0 where
    pub failed : HasCleanDisk (state g new) → IfErr result (FailsToRead (state g old) (state g new))
    pub mode : old.in_transaction ≡ false → new.in_transaction ≡ false
    pub survives : Survives (state g old) (state g new) (λ _. ⊥)

  -- The same of whatever is read: the next row is no record; or memory was refused for its record; or the store failed or the limit was met, and nothing more is given.
  abbrev pub FailsToMove : List Content → Held S → Held S → ReadError → Type 0
  FailsToMove columns old new NoRecord = (row : Row) × IsUnchanged (state g old) (state g new) × kit.Advances g old new (Some row) × ¬ HasColumns columns row
  FailsToMove columns old new (Store e) =
      (kit.FailsToAdvance g old new e × kit.IsEnded new) ⊎ ((e ≡ SqliteFailure OutOfMemory) × (row : Row) × IsUnchanged (state g old) (state g new) × kit.Advances g old new (Some row))
