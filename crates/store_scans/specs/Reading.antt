-- What calls that only read leave of a connection, and why they fail.
use Rattle.std.specs.Prelude.{◌≡◌, ◌⊎◌, ◌≤◌, false, IsTrue, IsSome, codes, length}
use Rattle.sqlite.specs.Disk.{MoreFaults}
use Rattle.sqlite.specs.Effect.{Database}
use Rattle.sqlite.specs.State.{State, HasCleanDisk, Survives}
use Rattle.sqlite.specs.declared.error.Error.{Error}
use Rattle.sqlite.specs.declared.error.Error.TheVariants.{SqliteFailure}
use Rattle.sqlite.specs.declared.error.ErrorCode.TheVariants as code
use Rattle.store_tables.specs.Tables.{table_of}
use Rattle.store_tables.specs.declared.tables.StoreTable.{StoreTable}
use Rattle.store_tables.specs.Effects.{rows_of}
use Rattle.store_sql.specs.declared.records.ReadError.{ReadError}
use Rattle.store_sql.specs.declared.records.ReadError.TheVariants.{NoRecord, Store}
use Rattle.store_rows.specs.declared.fault.RowsFault.{RowsFault}
use Rattle.store_rows.specs.declared.fault.RowsFault.TheVariants as rows
use Rattle.dict_desk.specs.declared.fault.Fault.{Fault}
use Rattle.dict_desk.specs.declared.fault.Fault.TheVariants as desk
use Rattle.store_scans.specs.declared.fault.ReadingFault.{ReadingFault}
use Rattle.store_scans.specs.declared.fault.ReadingFault.TheVariants.{Damaged, Memory, Disk}

-- it shows and has committed the same, and is open where it was
pub record Same (old new : State) : Type 0 where
  pub now : new.now ≡ old.now
  pub committed : new.committed ≡ old.committed
  pub is_open : new.is_open ≡ old.is_open

-- The same where all was committed, unless it has shut itself.
pub record StaysUnlessShut (old new : State) : Type 0 where
  pub was_open : IsTrue new.is_open → IsTrue old.is_open
  pub now : IsTrue new.is_open → old.now ≡ old.committed → new.now ≡ old.now
  pub committed : IsTrue new.is_open → old.now ≡ old.committed → new.committed ≡ old.committed

-- whatever comes of a call that only reads: nothing more may be left by a stop, and no transaction is open
pub record OnlyReads (old new : State) : Type 0 where
  pub mode : old.in_transaction ≡ false → new.in_transaction ≡ false
  pub survives : Survives old new (λ _. ⊥)
  pub stays : HasCleanDisk new → StaysUnlessShut old new

-- the fault that an error is

abbrev pub fault_of_store : Error → ReadingFault
fault_of_store (SqliteFailure code.OutOfMemory) = Memory
fault_of_store _ = Disk

abbrev pub reading_fault_of : ReadError → ReadingFault
reading_fault_of NoRecord = Damaged
reading_fault_of (Store e) = fault_of_store e

abbrev pub fault_of_rows : RowsFault → ReadingFault
fault_of_rows rows.Damaged = Damaged
fault_of_rows rows.Memory = Memory

abbrev pub fault_told : ReadingFault → Fault
fault_told Damaged = desk.Damaged
fault_told Memory = desk.Memory
fault_told Disk = desk.Disk

-- a table has more rows than a number counts
abbrev pub IsVast : Database → Type 0
IsVast db =
    ((table : StoreTable) × (18446744073709551615 ≤ length (rows_of (table_of table 0).name db)))
    ⊎ (18446744073709551615 ≤ length (rows_of (codes "dictcat_part") db))

-- Why a call that only reads gives `Disk`: the disk has failed meanwhile, or the connection was shut before, or the limit
-- on steps was met, or a table is too large.
abbrev pub HasFailedToRead : State → State → Type 0
HasFailedToRead old new = MoreFaults old.faults new.faults ⊎ ((old.is_open ≡ false) ⊎ (IsSome old.step_limit ⊎ IsVast old.now))

abbrev pub IsExcusedReading : State → State → ReadingFault → Type 0
IsExcusedReading old new Damaged = Unit {0}
IsExcusedReading old new Memory = Unit {0}
IsExcusedReading old new Disk = HasFailedToRead old new

-- the faults of an opening
abbrev pub IsOfOpening : Fault → Type 0
IsOfOpening (desk.Refused refusal) = ⊥
IsOfOpening desk.Memory = Unit {0}
IsOfOpening desk.Disk = Unit {0}
IsOfOpening desk.Closed = ⊥
IsOfOpening desk.NotACatalogue = Unit {0}
IsOfOpening desk.Damaged = Unit {0}
IsOfOpening desk.NewerSchema = Unit {0}
