-- The fault that an error of a statement is, and why a call that reads a catalogue fails.
use Rattle.std.specs.Prelude.{◌≡◌, ◌⊎◌, IsSome}
use Rattle.sqlite.specs.State.{State, IsUnchanged, Fails}
use Rattle.sqlite.specs.declared.error.Error.{Error}
use Rattle.sqlite.specs.declared.error.Error.TheVariants.{SqliteFailure}
use Rattle.sqlite.specs.declared.error.ErrorCode.TheVariants as code
use Rattle.store_sql.specs.declared.records.ReadError.{ReadError}
use Rattle.store_sql.specs.declared.records.ReadError.TheVariants.{NoRecord, Store}
use Rattle.dict_desk.specs.declared.fault.Fault.{Fault}
use Rattle.dict_desk.specs.declared.fault.Fault.TheVariants.{Refused, Memory, Disk, Closed, NotACatalogue, Damaged, NewerSchema}
use Rattle.store_rows.specs.Versions.{known}
use Rattle.store_holdings.specs.Holds.{HoldsNoneAs}

-- refused memory, or the store failed
abbrev pub fault_of : Error → Fault
fault_of (SqliteFailure code.OutOfMemory) = Memory
fault_of _ = Disk

-- the fault of a read: a row that is no record is the store's failure too
abbrev pub fault_of_read : ReadError → Fault
fault_of_read NoRecord = Disk
fault_of_read (Store e) = fault_of e

-- a growth was refused, or the store failed
abbrev pub IsOfStore : Fault → Type 0
IsOfStore (Refused refusal) = ⊥
IsOfStore Memory = Unit {0}
IsOfStore Disk = Unit {0}
IsOfStore Closed = ⊥
IsOfStore NotACatalogue = ⊥
IsOfStore Damaged = ⊥
IsOfStore NewerSchema = ⊥

-- Why a call that reads fails though its store doesn't: a growth was refused; or the limit on steps was met, or what is
-- read is no catalogue's, under the known version.
abbrev pub IsUnreadCatalogue : State → Fault → Type 0
IsUnreadCatalogue old (Refused refusal) = ⊥
IsUnreadCatalogue old Memory = Unit {0}
IsUnreadCatalogue old Disk = IsSome old.step_limit ⊎ HoldsNoneAs known old.now
IsUnreadCatalogue old Closed = ⊥
IsUnreadCatalogue old NotACatalogue = ⊥
IsUnreadCatalogue old Damaged = ⊥
IsUnreadCatalogue old NewerSchema = ⊥

-- A call that reads failed: the store did, for the cause that its error names, of which this is the fault, and it shows
-- what was committed; or nothing has changed, and the store did not fail.
abbrev pub FailsToReadCatalogue : State → State → Fault → Type 0
FailsToReadCatalogue old new fault = (IsUnchanged old new × IsUnreadCatalogue old fault) ⊎ ((e : Error) × (fault ≡ fault_of e) × Fails old new ⊥ e)
