-- The records that the product's tables keep, the parts of files among them, and what a call makes of them.
use Rattle.std.specs.Prelude.{◌≡◌, ◌≢◌, ℕ, ◌≤◌, List, Some, codes, map, IsPermutation}
use Rattle.std.specs.List.{AllByRecursion}
use Rattle.sqlite.specs.Effect.{Database}
use Rattle.sqlite.specs.Schema.{Schema}
use Rattle.sqlite.specs.Table.{Table}
use Rattle.store_sql.specs.Encodings.{kept_row}
use Rattle.dict_catalogue.specs.Steps.{KeptFor}
use Rattle.dict_catalogue.specs.WellFormed.{IsEachOnce}
use Rattle.store_rows.specs.Written.{kept_record}
use Rattle.store_tables.specs.Found.{found_table}
use Rattle.store_rows.specs.Versions.{known, layout_of}
use Rattle.store_holdings.specs.AllTables.{AllTables}
use Rattle.store_holdings.specs.Holds.{HasLayout}
use Rattle.store_sql.specs.Readings.{Keeps}
use Rattle.store_sql.specs.Readings.{table_name_of, readings, KeepsAll}
use Rattle.store_holdings.specs.HeldTexts.{text_rows}

-- the database has the product's tables, and they keep these records
pub record HasRecords (db : Database) (all : AllTables) : Type 0 where
  pub own : HasLayout (layout_of known) db.schema
  pub keeps : KeepsAll (layout_of known) db all

-- they keep some records
abbrev pub IsUsable : Database → Type 0
IsUsable db = (all : AllTables) × HasRecords db all

-- the table is none of the product's
abbrev pub IsOther : Schema → Table → Type 0
IsOther schema table = AllByRecursion (λ r. (own : Table) → found_table schema (table_name_of r) ≡ Some own → table.tree ≢ own.tree) (readings (layout_of known))

-- the tables are those that there were, and each that is none of the product's has the rows that it had
pub record SparesTablesOfOthers (old new : Database) : Type 0 where
  pub schema : new.schema ≡ old.schema
  pub others : AllByRecursion (λ t. IsOther old.schema t → new.trees t.tree ≡ old.trees t.tree) old.schema.tables

-- whatever records the tables kept, they keep these of them now, and other tables have the rows that they had
abbrev pub TurnsRecords : (AllTables → AllTables) → Database → Database → Type 0
TurnsRecords f old new = (all : AllTables) → HasRecords old all → HasRecords new (f all) × SparesTablesOfOthers old new

-- Under each of these numbers that an install before was given stands the text that stood there: a number is never given twice, and
-- the text of an edition that stays is not written anew.
abbrev pub KeepsTextRows : ℕ → List ℕ → Database → Database → Type 0
KeepsTextRows installs numbers old new = AllByRecursion (λ number. number ≤ installs → IsPermutation (text_rows number old) (text_rows number new)) numbers

-- the table of the replies has a row for each of these and no others, and no id is among them twice: whatever other tables have
pub record HoldsReplies (db : Database) (kept : List KeptFor) : Type 0 where
  pub keeps : Keeps (codes "kept") kept_row db (map kept_record kept)
  pub once : IsEachOnce (map (λ (one : KeptFor). one.id) kept)

-- a number that a column of integers can hold
abbrev pub FitsColumn : ℕ → Type 0
FitsColumn number = number ≤ 9223372036854775807

abbrev pub AreStorable : List ℕ → Type 0
AreStorable numbers = AllByRecursion FitsColumn numbers
