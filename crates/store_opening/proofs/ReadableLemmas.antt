-- A row that stands for no record is in no table of a database that holds a catalogue.
use Rattle.std.proofs.Common.{◌≡◌, List}
use Rattle.std.specs.List.{AllByRecursion}
use Rattle.sqlite.specs.Order.{Row}
use Rattle.sqlite.specs.State.{State}
use Rattle.sqlite.specs.declared.error.Error.{Error}
use Rattle.sqlite.specs.declared.error.Error.TheVariants.{SqliteFailure}
use Rattle.sqlite.specs.declared.error.ErrorCode.TheVariants as code
use Rattle.store_sql.specs.Columns.{Content, HasColumns}
use Rattle.store_sql.specs.Reads.{FailsToList}
use Rattle.store_sql.specs.declared.records.ReadError.{ReadError}
use Rattle.store_sql.specs.declared.records.ReadError.TheVariants.{NoRecord, Store}
use Rattle.store_scans.specs.Reading.{fault_of_store, reading_fault_of}
use Rattle.store_scans.specs.declared.fault.ReadingFault.TheVariants.{Damaged}
use Rattle.store_holdings.proofs.LookupLemmas.{all_contains}

no_damage : (e : Error) → fault_of_store e ≡ Damaged → ⊥
no_damage (SqliteFailure code.OutOfMemory) is = absurd (cc)
no_damage e is = absurd (cc)

pub none_listed : (columns : List Content) (rows : List Row) (old new : State) (error : ReadError) → FailsToList columns rows old new error → reading_fault_of error ≡ Damaged → AllByRecursion (HasColumns columns) rows → ⊥
none_listed columns rows old new NoRecord h is all = h.1.2 (all_contains (HasColumns columns) rows h.1.0 all h.1.1)
none_listed columns rows old new (Store e) h is all = no_damage e is
