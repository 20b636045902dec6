-- What a lookup asks of a database, what it reads there, and how it leaves it.
use Rattle.std.specs.Prelude.{◌≡◌, ◌⊎◌, ◌≤◌, IsSome, IsPermutation, nat_le, if◌then◌else◌, ℕ, pos, false, List, [], ◌∷◌, codes, filter, Result, OnOk, IfErr}
use Rattle.std.specs.List.{AllByRecursion}
use Rattle.sqlite.specs.declared.error.Error.{Error}
use Rattle.sqlite.specs.Effect.{Database}
use Rattle.sqlite.specs.Held.{Held, state}
use Rattle.sqlite.specs.State.{State, HasCleanDisk, IsUnchanged, Fails, Survives}
use Rattle.sqlite_trees.specs.declared.store.Store.{Ghosts}
use Rattle.store_tables.specs.Records.{header_of}
use Rattle.store_tables.specs.Effects.{Has, equals_number, rows_of}
use Rattle.store_sql.specs.Columns.{HasColumns}
use Rattle.store_sql.specs.HeaderTable.{header}
use Rattle.store_sql.specs.HeaderRecords.{header_row, header_columns}
use Rattle.store_sql.specs.PartTable.{part}
use Rattle.store_sql.specs.ChosenParts.{is_of_file}
use Rattle.store_sql.specs.PartRecords.{part_columns}
use Rattle.dict_index.specs.Edition.{ReadEdition}
use Rattle.store_rows.specs.Written.{edition_record}
use Rattle.store_holdings.specs.HeldTexts.{rows_under}
pub use Rattle.store_holdings.specs.Faults.{fault_of, fault_of_read, IsOfStore}
use Rattle.dict_desk.specs.declared.fault.Fault.{Fault}
use Rattle.dict_desk.specs.declared.fault.Fault.TheVariants.{Refused, Memory, Disk, Closed, NotACatalogue, Damaged, NewerSchema}

-- the tables that lookups read: the headers of editions, and the parts of their files
pub record HasLookupTables (db : Database) : Type 0 where
  pub headers : Has header db
  pub parts : Has part db

-- ---- what the database holds under the number of an edition

-- The database has this title and this info under this number: one header has the number.
pub record HoldsOne (db : Database) (number : ℕ) (reading : ReadEdition) : Type 0 where
  pub few : number ≤ 9223372036854775807
  pub owner : List ℕ
  pub row : IsPermutation (header_row (header_of (edition_record owner number reading)) ∷ []) (rows_under (codes "edition") number db)

-- the number as a column has it: one that no column can have is no edition's, nor is the one that stands for it
abbrev pub number_in_column : ℕ → ℕ
number_in_column number = if nat_le number 9223372036854775807 then number else 0

-- what stands under this number can be read: each row stands for a header, or for a part of the text
pub record IsEditionReadable (db : Database) (number : ℕ) : Type 0 where
  pub headers : AllByRecursion (HasColumns header_columns) (filter (equals_number 1 (pos number)) (rows_of (codes "edition") db))
  pub parts : AllByRecursion (HasColumns part_columns) (filter (is_of_file (pos number) (pos 1)) (rows_of (codes "dictcat_part") db))

-- ---- why a lookup fails, and how it leaves the store

-- Why a lookup under this number fails though its store doesn't: a growth was refused; or the limit on steps was met, or
-- what stands under the number is no edition's.
abbrev pub IsUnreadEdition : ℕ → State → Fault → Type 0
IsUnreadEdition number old (Refused refusal) = ⊥
IsUnreadEdition number old Memory = Unit {0}
IsUnreadEdition number old Disk = IsSome old.step_limit ⊎ (IsEditionReadable old.now number → ⊥)
IsUnreadEdition number old Closed = ⊥
IsUnreadEdition number old NotACatalogue = ⊥
IsUnreadEdition number old Damaged = ⊥
IsUnreadEdition number old NewerSchema = ⊥

-- A lookup under this number failed: the store did, for the cause that its error names, of which this is the fault, and it
-- shows what was committed; or nothing has changed, and the store did not fail.
abbrev pub FailsToLookUp : ℕ → State → State → Fault → Type 0
FailsToLookUp number old new fault = (IsUnchanged old new × IsUnreadEdition number old fault) ⊎ ((e : Error) × (fault ≡ fault_of e) × Fails old new ⊥ e)

-- ---- what it leaves of a connection

module _ {S : Type 0} (g : Ghosts S) where
  -- the connection was read from, and nothing has changed
  abbrev pub IsReadFrom : Held S → Held S → Type 0
  IsReadFrom old new = IsUnchanged (state g old) (state g new)

  -- what is to be read under this number wasn't read
  abbrev pub FailsToReadUnder : ℕ → Held S → Held S → Fault → Type 0
  FailsToReadUnder number old new fault = FailsToLookUp (number_in_column number) (state g old) (state g new) fault

  -- How a lookup ends, and what it leaves of a connection. Where no disk has failed, the connection behind it is to that before it as the one
  -- relation says if it gave something, and as the other says of its fault if it failed. The fault is one of the store's. No transaction has
  -- begun, and a stop may leave nothing that it couldn't leave before.
  pub record ReadsStore {T : Type 0} (Reads : Held S → Held S → Type 0) (FailsToRead : Held S → Held S → Fault → Type 0) (old new : Held S) (result : Result T Fault) : Type 0 where
    pub same : HasCleanDisk (state g new) → OnOk result (Reads old new)
    pub failed : HasCleanDisk (state g new) → IfErr result (FailsToRead old new)
    pub kinds : IfErr result IsOfStore
    pub mode : old.in_transaction ≡ false → new.in_transaction ≡ false
    pub survives : Survives (state g old) (state g new) (λ _. ⊥)
