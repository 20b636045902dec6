-- What takes the records of a scan.
use Rattle.std.specs.Prelude.{◌⊎◌, List, [], ◌∷◌, ◌++◌, map}
use Rattle.sqlite.specs.Order.{Row}
use Rattle.sqlite.specs.Effect.{Database}
use Rattle.sqlite.specs.Held.{Held}
use Rattle.sqlite_trees.specs.declared.store.Store.{Ghosts}
use Rattle.store_sql.specs.Columns.{Content, HasColumns}
use Rattle.store_scans.specs.Cursors.{Cursor, CursorHasGiven, IsScannedToEnd, IsFrontOfScan}

-- these records were given, and from the first state on they were taken
pub record TakesSo {S R T : Type 0} (g : Ghosts S) (stored : R → Row) (takes : T → List R → T → Type 0) (what : Cursor) (first : T) (given : List R) (held : Held S) (taker : T) : Type 0 where
  pub given_are : CursorHasGiven g what held (map stored given)
  pub taken : takes first given taker

-- all records of the scan were taken
abbrev pub TakesAll : {R T : Type 0} → (R → Row) → (T → List R → T → Type 0) → Cursor → Database → T → T → Type 0
TakesAll {R} stored takes what db first last = (given : List R) × IsScannedToEnd what db (map stored given) × takes first given last

-- The rows begin with such that stand for records, and one that stands for none.
abbrev pub HasNoRecordIn : {R : Type 0} → (R → Row) → List Content → Cursor → Database → Type 0
HasNoRecordIn {R} stored columns what db = (given : List R) × (row : Row) × IsFrontOfScan what db (map stored given ++ row ∷ []) × ¬ HasColumns columns row

-- The rows begin with such that stand for records which aren't taken.
abbrev pub HasRefused : {R T : Type 0} → (R → Row) → (T → List R → Type 0) → Cursor → Database → T → Type 0
HasRefused {R} stored refuses what db first = (given : List R) × IsFrontOfScan what db (map stored given) × refuses first given

abbrev pub IsWrong : {R T : Type 0} → (R → Row) → List Content → (T → List R → Type 0) → Cursor → Database → T → Type 0
IsWrong stored columns refuses what db first = HasNoRecordIn stored columns what db ⊎ HasRefused stored refuses what db first
