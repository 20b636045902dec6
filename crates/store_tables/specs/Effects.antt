-- What a statement does to the rows of a table.
use Rattle.std.specs.Prelude.{Bool, true, false, not, filter, ◌≡◌, ◌≢◌, ◌⊎◌, IsTrue, IsSome, ℕ, ℤ, List, [], ◌∷◌, map, Option, Some, slice_get, option_map, option_and_then, unwrap_or, IsPermutation, length}
use Rattle.std.specs.List.{AllByRecursion, IsDistinct, range_with_len}
use Rattle.std.specs.Ordering.{is_eq}
use Rattle.sqlite.specs.declared.types.Value.{Value}
use Rattle.sqlite.specs.Effect.{Database, IsDatabase, SparesFrozen}
use Rattle.sqlite.specs.declared.types.Value.TheVariants.{Int, Text as Words}
use Rattle.sqlite.specs.Order.{Row, column, value_cmp}
use Rattle.sqlite.specs.State.{State, HasCleanDisk, Shows, KeepsCommit, IsUnchanged, Fails, is_disk_error}
use Rattle.sqlite.specs.Disk.{MoreFaults}
use Rattle.sqlite.specs.Held.{state}
use Rattle.sqlite.specs.declared.transaction.Transaction.{Transaction}
use Rattle.sqlite_trees.specs.declared.store.Store.{Ghosts}
use Rattle.sqlite.specs.declared.error.Error.{Error}
use Rattle.sqlite.specs.declared.error.Error.TheVariants.{SqliteFailure}
use Rattle.sqlite.specs.declared.error.ErrorCode.TheVariants as code
use Rattle.sqlite.specs.Table.{Table}
use Rattle.sqlite_schema.specs.Names.{table_named, place_of}
use Rattle.store_tables.specs.Found.{HasTable}

-- what the connection of a transaction shows
abbrev pub seen : {S : Type 0} → Ghosts S → Transaction S → State
seen g tx = state g tx.conn.now

-- Of a connection that is open, while the disk gives what was written. One that has shut itself beside a refused growth shows no tables.
abbrev pub WhileOpen : State → (Database → Type 0) → Type 0
WhileOpen s P = HasCleanDisk s → IsTrue s.is_open → P s.now

-- the database has the table, in some tree
abbrev pub Has : (ℕ → Table) → Database → Type 0
Has table db = (at : ℕ) × (tree : ℕ) × HasTable db.schema at (table tree)

-- the rowid of a stored row, and then its columns as they were declared
abbrev pub shown : Table → Row → Row
shown table row = column row 0 ∷ map (λ at. column row (place_of table at)) (range_with_len 0 (length table.columns))

abbrev pub table_in : List ℕ → Database → Option Table
table_in name db = option_and_then (slice_get db.schema.tables) (table_named db.schema name)

-- the rows of a table, each after its rowid, in no order that counts
abbrev pub rows_of : List ℕ → Database → List Row
rows_of name db = unwrap_or (option_map (λ t. map (shown t) (db.trees t.tree)) (table_in name db)) []

-- The table is the only one that may have changed.
abbrev pub SameOthers : List ℕ → Database → Database → Type 0
SameOthers name old new = (table : Table) → table_in name old ≡ Some table → AllByRecursion (λ t. t.tree ≢ table.tree → new.trees t.tree ≡ old.trees t.tree) old.schema.tables

-- how many rows of a table pass a test
abbrev pub count_in : List ℕ → (Row → Bool) → Database → ℕ
count_in name test db = length (filter test (rows_of name db))

abbrev pub same_value : Value → Value → Bool
same_value a b = is_eq (value_cmp a b)

-- the rowids are integers, and no two are the same
pub record HasApartRowids (rows : List Row) : Type 0 where
  pub integers : AllByRecursion (λ r. (n : ℤ) × (column r 0 ≡ Int n)) rows
  pub apart : IsDistinct same_value (map (λ r. column r 0) rows)

-- one row more in one table, under a rowid that was free, and nothing else has changed, nor what `sqlite` keeps and doesn't read
pub record IsAdded (name : List ℕ) (row : Row) (old new : Database) : Type 0 where
  pub schema : new.schema ≡ old.schema
  pub id : ℤ
  pub free : AllByRecursion (λ r. column r 0 ≢ Int id) (rows_of name old)
  pub rows : IsPermutation ((Int id ∷ row) ∷ rows_of name old) (rows_of name new)
  pub others : SameOthers name old new
  pub unread : SparesFrozen old new
  pub sound : IsDatabase new

-- the rows of one table that pass a test are gone, and nothing else has changed, nor what `sqlite` keeps and doesn't read
pub record IsRemoved (name : List ℕ) (test : Row → Bool) (old new : Database) : Type 0 where
  pub schema : new.schema ≡ old.schema
  pub rows : rows_of name new ≡ filter (λ r. not (test r)) (rows_of name old)
  pub others : SameOthers name old new
  pub unread : SparesFrozen old new
  pub sound : IsDatabase new

-- the rows that have this number in a column, as SQL compares values
abbrev pub equals_number : ℕ → ℤ → Row → Bool
equals_number at n r = same_value (column r at) (Int n)

abbrev pub equals_text : ℕ → List ℕ → Row → Bool
equals_text at t r = same_value (column r at) (Words t)

-- An error that names the disk came with a fault of the disk.
abbrev pub CountsFaults : State → State → Error → Type 0
CountsFaults old new e = is_disk_error e ≡ true → MoreFaults old.faults new.faults

-- A statement of a transaction failed: nothing was committed. It was refused and nothing has changed, or the store failed and the transaction is undone. Outside of a transaction nothing is run. (Of a connection that was shut before it
-- isn't told how big the row is.)
pub record FailsIn (Refuses : Error → Type 0) (TooBig : Type 0) (old new : State) (e : Error) : Type 0 where
  pub keeps : KeepsCommit old new
  pub cause : IsTrue old.in_transaction → (Refuses e × IsUnchanged old new) ⊎ Fails old new (IsTrue old.is_open → TooBig) e
  pub outside : old.in_transaction ≡ false → (e ≡ SqliteFailure code.TransactionState) × (new.now ≡ old.now)
  pub counts : CountsFaults old new e

-- A statement of a transaction succeeded: it sees what it wrote, and nothing was committed.
abbrev pub GoesOn : State → State → Type 0
GoesOn old new = Shows old new new.now old.committed true

-- A text that reads failed. The store failed, and the transaction is undone; or the limit on steps was met, and nothing has changed.
abbrev pub FailsToRead : State → State → Error → Type 0
FailsToRead old new e = Fails old new ⊥ e ⊎ ((e ≡ SqliteFailure code.OperationInterrupted) × IsSome old.step_limit × IsUnchanged old new)
