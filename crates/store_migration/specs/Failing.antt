-- Why nothing comes of a migration.
use Rattle.std.specs.Prelude.{◌≡◌, ◌⊎◌, ◌≤◌, ℕ, ℤ, true, List, map, pos, Option}
use Rattle.std.specs.List.{AllByRecursion}
use Rattle.sqlite.specs.Effect.{Database}
use Rattle.sqlite.specs.State.{Survives}
use Rattle.sqlite.specs.Held.{Held, state}
use Rattle.sqlite.specs.declared.error.Error.TheVariants.{SqliteFailure}
use Rattle.sqlite.specs.declared.error.ErrorCode.TheVariants.{OutOfMemory}
use Rattle.sqlite_trees.specs.declared.store.Store.{Ghosts}
use Rattle.store_sql.specs.declared.records.ReadError.{ReadError}
use Rattle.store_sql.specs.declared.records.ReadError.TheVariants.{NoRecord, Store}
use Rattle.dict_desk.specs.declared.fault.Fault.{Fault}
use Rattle.dict_desk.specs.declared.fault.Fault.TheVariants.{Memory, Disk}
use Rattle.dict_catalogue.specs.Items.{edition_numbers}
use Rattle.dict_catalogue.specs.Steps.{Catalogue}
use Rattle.dict_catalogue.specs.Tests.{Holdings}
use Rattle.store_rows.specs.Versions.{known, layout_of}
use Rattle.store_holdings.specs.Faults.{fault_of_read}
use Rattle.store_holdings.specs.Holds.{Holds}
use Rattle.store_holdings.specs.Writing.{TransactionFailsToEnd}
use Rattle.store_migration.specs.declared.older.Older.{Older}
use Rattle.store_migration.specs.Older.{layout_before}
use Rattle.store_migration.specs.MigrationParts.{MigrationPart, FailsBy}
use Rattle.store_migration.specs.FailurePlaces.{FailurePlace, InRenewal}
use Rattle.store_migration.specs.Moved.{IsRenewed}

-- one of the numbers is above all that a column holds, or a growth was refused
abbrev pub FailsToSign : List ℕ → ReadError → Type 0
FailsToSign numbers NoRecord = AllByRecursion (λ number. number ≤ 9223372036854775807) numbers → ⊥
FailsToSign numbers (Store e) = e ≡ SqliteFailure OutOfMemory

-- one of the numbers of a summary is above all that a column holds, which no file has
abbrev pub IsBeyond : Holdings (List ℕ) → Type 0
IsBeyond summary = (summary.installs ≤ 9223372036854775807) × AllByRecursion (λ number. number ≤ 9223372036854775807) (edition_numbers summary.items) → ⊥

module _ {S : Type 0} (g : Ghosts S) where
  -- At one of these places of the transaction a part of it failed. Nothing was committed before, and the database that the part
  -- found is that of the place.
  pub record MigrationFailsInside (P : FailurePlace) (old new : Held S) (e : ReadError) : Type 0 where
    pub at : Held S
    pub before : Survives (state g old) (state g at) (λ _. ⊥)
    pub inside : (state g old).in_transaction ≡ true → (state g at).in_transaction ≡ true
    pub part : MigrationPart
    pub place : P part (state g old).now (state g at).now
    pub fails : FailsBy part (state g at) (state g new) e

  -- A transaction was begun, and a part of the renewal of these editions failed in it, and it was rolled back; or all was renewed, so
  -- that P holds of the database, and its commit failed.
  abbrev pub MigrationFailsToEnd : Option Older → List ℤ → ℕ → (Database → Type 0) → Held S → Held S → Fault → Type 0
  MigrationFailsToEnd older numbers installs P =
      TransactionFailsToEnd g fault_of_read (MigrationFailsInside (InRenewal older numbers installs)) (λ begun last. IsRenewed older numbers installs (state g begun).now (state g last).now) P

  -- Nothing was begun: a growth was refused, or a number of the summary is above all that a column holds.
  pub record MigrationIsNotBegun (summary : Holdings (List ℕ)) (old new : Held S) (fault : Fault) : Type 0 where
    pub same : new ≡ old
    pub why : (fault ≡ Memory) ⊎ ((fault ≡ Disk) × IsBeyond summary)

  -- A part of the migration of the editions of this summary failed (where the tables were laid out as those of the known version
  -- already, of the two statements that write the mark anew), or its commit did, behind which a catalogue that was held under this
  -- version is held under the known one.
  pub record FailsToMoveEditions (version : ℕ) (summary : Holdings (List ℕ)) (old new : Held S) (fault : Fault) : Type 0 where
    pub older : Option Older
    pub layout : layout_of version ≡ layout_before older
    pub why : MigrationFailsToEnd older (map pos (edition_numbers summary.items)) summary.installs (λ db. (M : Catalogue) → Holds version (state g old).committed M → Holds known db M) old new fault

  -- either
  abbrev pub FailsToMigrate : ℕ → Holdings (List ℕ) → Held S → Held S → Fault → Type 0
  FailsToMigrate version summary old new fault = MigrationIsNotBegun summary old new fault ⊎ FailsToMoveEditions version summary old new fault
