-- The parts of a migration, and why one of them fails.
use Rattle.std.specs.Prelude.{◌≡◌, ℕ, ℤ, true, List, filter, codes}
use Rattle.std.specs.List.{AllByRecursion}
use Rattle.sqlite.specs.Effect.{Database}
use Rattle.sqlite.specs.Order.{Row}
use Rattle.sqlite.specs.State.{State}
use Rattle.sqlite.specs.declared.error.Error.TheVariants.{SqliteFailure}
use Rattle.sqlite.specs.declared.error.ErrorCode.TheVariants.{OutOfMemory}
use Rattle.store_tables.specs.Records.{EditionRecord, EntryRecord}
use Rattle.store_sql.specs.HeaderTable.{header}
use Rattle.store_sql.specs.PartTable.{part}
use Rattle.store_sql.specs.Columns.{Content}
use Rattle.store_tables.specs.Creates.{FailsToMake}
use Rattle.store_sql.specs.Deletes.{FailsToRemove}
use Rattle.store_older_sql.specs.Drops.{FailsToDrop}
use Rattle.store_tables.specs.Effects.{equals_number, rows_of}
use Rattle.store_sql.specs.Inserts.{FailsToInsert}
use Rattle.store_sql.specs.Reads.{FailsToList}
use Rattle.store_sql.specs.declared.records.ReadError.{ReadError}
use Rattle.store_sql.specs.declared.records.ReadError.TheVariants.{NoRecord, Store}
use Rattle.store_migration.specs.declared.older.Older.{Older}
use Rattle.store_migration.specs.Steps.{AreEntriesOf, HasLine, IsEditionOf}

-- What is done within the transaction: the table of parts is made; the rows under a number are read, of the table of this name, as
-- records of these columns; of the records of editions that have a number the only one is taken; the index of the entries under a
-- number is made in memory; a row is put into a table; a table is dropped; the table of editions is made again; the marks are taken
-- out; and the headers are kept in memory.
pub data MigrationPart : Type 0 where
  making_parts : MigrationPart
  reading : List ℕ → List Content → ℤ → MigrationPart
  choosing : ℤ → MigrationPart
  writing : Older → ℤ → MigrationPart
  putting : List ℕ → Row → MigrationPart
  dropping : List ℕ → MigrationPart
  making_editions : MigrationPart
  clearing_marks : MigrationPart
  keeping : MigrationPart

-- no record has the number, or several have it
abbrev pub HasNotOne : ℤ → Database → Type 0
HasNotOne number db = (edition : EditionRecord) → IsEditionOf number db edition → ⊥

-- one of these entries has no line, or a growth was refused
abbrev pub FailsToWriteIndex : List EntryRecord → ReadError → Type 0
FailsToWriteIndex entries NoRecord = AllByRecursion HasLine entries → ⊥
FailsToWriteIndex entries (Store e) = e ≡ SqliteFailure OutOfMemory

-- A statement failed, for the cause that its error names, or a growth was refused; or what was read is no edition of a catalogue, since
-- a row is no record, or an entry has no line, or of a number there isn't one record.
abbrev pub FailsBy : MigrationPart → State → State → ReadError → Type 0
FailsBy making_parts old new (Store e) = FailsToMake (part 0) old new e
FailsBy making_parts old new NoRecord = ⊥
FailsBy (reading name columns number) old new e = FailsToList columns (filter (equals_number 1 number) (rows_of name old.now)) old new e
FailsBy (choosing number) old new (Store e) = ⊥
FailsBy (choosing number) old new NoRecord = HasNotOne number old.now
FailsBy (writing older number) old new e = (entries : List EntryRecord) × AreEntriesOf older number old.now entries × FailsToWriteIndex entries e
FailsBy (putting name row) old new (Store e) = FailsToInsert name row old new e
FailsBy (putting name row) old new NoRecord = ⊥
FailsBy (dropping name) old new (Store e) = FailsToDrop name old new e
FailsBy (dropping name) old new NoRecord = ⊥
FailsBy making_editions old new (Store e) = FailsToMake (header 0) old new e
FailsBy making_editions old new NoRecord = ⊥
FailsBy clearing_marks old new (Store e) = FailsToRemove (codes "mark") (λ _. true) old new e
FailsBy clearing_marks old new NoRecord = ⊥
FailsBy keeping old new (Store e) = e ≡ SqliteFailure OutOfMemory
FailsBy keeping old new NoRecord = ⊥
