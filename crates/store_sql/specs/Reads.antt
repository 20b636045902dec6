-- The texts that read a table, in which order its rows come, and why it isn't read.
use Rattle.std.specs.Prelude.{◌≡◌, ◌⊎◌, ℕ, List, [], ◌∷◌, codes, Bool, filter, map, IsPermutation, IsSorted}
use Rattle.std.specs.List.{Contains}
use Rattle.std.specs.declared.cmp.Ordering.{Ordering}
use Rattle.std.specs.declared.cmp.Ordering.TheVariants.{Equal}
use Rattle.std.specs.Ordering.{ordering_then}
use Rattle.sqlite.specs.Order.{Row, column, value_cmp}
use Rattle.sqlite.specs.Effect.{Database}
use Rattle.sqlite.specs.State.{State, IsUnchanged}
use Rattle.sqlite.specs.declared.error.Error.TheVariants.{SqliteFailure}
use Rattle.sqlite.specs.declared.error.ErrorCode.TheVariants.{OutOfMemory}
use Rattle.store_tables.specs.declared.tables.StoreTable.{StoreTable}
use Rattle.store_tables.specs.declared.tables.StoreTable.TheVariants.{Mark, Item, Member, Edition, Entry, Kept}
use Rattle.store_tables.specs.Effects.{rows_of, FailsToRead}
use Rattle.store_sql.specs.Columns.{Content, HasColumns}
use Rattle.store_sql.specs.declared.records.ReadError.{ReadError}
use Rattle.store_sql.specs.declared.records.ReadError.TheVariants.{NoRecord, Store}

abbrev pub select_mark : List ℕ
select_mark = codes "SELECT rowid, * FROM mark ORDER BY 2"

abbrev pub select_item : List ℕ
select_item = codes "SELECT rowid, * FROM item ORDER BY 2"

abbrev pub select_member : List ℕ
select_member = codes "SELECT rowid, * FROM member ORDER BY 2, 3"

abbrev pub select_kept : List ℕ
select_kept = codes "SELECT rowid, * FROM kept ORDER BY 3"

abbrev pub select_kept_by_id : List ℕ
select_kept_by_id = codes "SELECT rowid, * FROM kept ORDER BY 2"

-- a table in the order of its rowids
abbrev pub select_by_rowid : StoreTable → List ℕ
select_by_rowid Mark = codes "SELECT rowid, * FROM mark ORDER BY 1"
select_by_rowid Item = codes "SELECT rowid, * FROM item ORDER BY 1"
select_by_rowid Member = codes "SELECT rowid, * FROM member ORDER BY 1"
select_by_rowid Edition = codes "SELECT rowid, * FROM edition ORDER BY 1"
select_by_rowid Entry = codes "SELECT rowid, * FROM entry ORDER BY 1"
select_by_rowid Kept = codes "SELECT rowid, * FROM kept ORDER BY 1"

-- the editions, without their texts
abbrev pub select_numbers : List ℕ
select_numbers = codes "SELECT rowid, number FROM edition ORDER BY 1"

-- the order of rows by these columns, where the rowid is column 0
abbrev pub by_columns : List ℕ → Row → Row → Ordering
by_columns [] a b = Equal
by_columns (c ∷ cs) a b = ordering_then (value_cmp (column a c) (column b c)) (by_columns cs a b)

-- all rows of a table, each after its rowid, in the order of these columns
pub record IsListing (name : List ℕ) (columns : List ℕ) (db : Database) (rows : List Row) : Type 0 where
  pub same : IsPermutation (rows_of name db) rows
  pub sorted : IsSorted (by_columns columns) rows

-- of the row of an edition, its rowid and its number
abbrev pub rowid_and_number : Row → Row
rowid_and_number r = column r 0 ∷ column r 1 ∷ []

-- the rowid and the number of each edition, and nothing else, in the order of the rowids
pub record IsNumbering (db : Database) (rows : List Row) : Type 0 where
  pub same : IsPermutation (map rowid_and_number (rows_of (codes "edition") db)) rows
  pub sorted : IsSorted (by_columns (0 ∷ [])) rows

abbrev pub select_one_edition : List ℕ
select_one_edition = codes "SELECT rowid, * FROM edition WHERE number = ?1 ORDER BY 2"

abbrev pub select_some_entries : List ℕ
select_some_entries = codes "SELECT rowid, * FROM entry WHERE edition = ?1 ORDER BY 3"

abbrev pub select_one_kept : List ℕ
select_one_kept = codes "SELECT rowid, * FROM kept WHERE id = ?1 ORDER BY 3"

-- the rows of a table that pass a test, each after its rowid, in the order of these columns
pub record IsSelection (name : List ℕ) (test : Row → Bool) (columns : List ℕ) (db : Database) (rows : List Row) : Type 0 where
  pub same : IsPermutation (filter test (rows_of name db)) rows
  pub sorted : IsSorted (by_columns columns) rows

-- all rows of the table were read, and nothing has changed
abbrev pub Lists : List ℕ → List ℕ → State → State → List Row → Type 0
Lists name columns old new rows = IsListing name columns old.now rows × IsUnchanged old new

-- those that pass the test were, and nothing has changed
abbrev pub Selects : List ℕ → (Row → Bool) → List ℕ → State → State → List Row → Type 0
Selects name test columns old new rows = IsSelection name test columns old.now rows × IsUnchanged old new

-- one of the rows stands for no record of these columns
abbrev pub HasNoRecord : List Content → List Row → Type 0
HasNoRecord columns rows = (row : Row) × Contains rows row × ¬ HasColumns columns row

-- A row is no record, or memory was refused.
abbrev pub FailsToDecode : List Content → Row → ReadError → Type 0
FailsToDecode columns row NoRecord = ¬ HasColumns columns row
FailsToDecode columns row (Store e) = e ≡ SqliteFailure OutOfMemory

-- One of the rows is no record, or memory was refused.
abbrev pub FailsToDecodeAll : List Content → List Row → ReadError → Type 0
FailsToDecodeAll columns rows NoRecord = HasNoRecord columns rows
FailsToDecodeAll columns rows (Store e) = e ≡ SqliteFailure OutOfMemory

-- One of the rows is no record, and nothing has changed; or the store failed or the limit was met, or memory was refused for the records.
abbrev pub FailsToList : List Content → List Row → State → State → ReadError → Type 0
FailsToList columns rows old new NoRecord = IsUnchanged old new × HasNoRecord columns rows
FailsToList columns rows old new (Store e) = FailsToRead old new e ⊎ (IsUnchanged old new × (e ≡ SqliteFailure OutOfMemory))
