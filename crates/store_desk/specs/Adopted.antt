-- What a desk over a database shows, and why there is none.
use Rattle.std.specs.Prelude.{◌≡◌, ◌<◌, ◌↔◌, ◌⊎◌, ℕ, false, [], ◌∷◌, Some, None, IsTrue}
use Rattle.sqlite.specs.Effect.{Database}
use Rattle.sqlite.specs.State.{State, HasCleanDisk, Survives}
use Rattle.sqlite.specs.Tree.{Trees}
use Rattle.sqlite.specs.Held.{Held, state}
use Rattle.sqlite_trees.specs.declared.store.Store.{Ghosts}
use Rattle.dict_catalogue.specs.Steps.{Catalogue, summary_of}
use Rattle.dict_desk.specs.Faults.{is_disk}
use Rattle.dict_desk.specs.declared.fault.Fault.{Fault}
use Rattle.dict_desk.specs.declared.fault.Fault.TheVariants.{Disk}
use Rattle.store_holdings.specs.Holds.{Holds, IsHeld, Rests}
use Rattle.store_opening.specs.Reading.{IsOfOpening, HasFailedToRead}
use Rattle.store_migration.specs.Failing.{IsBeyond, FailsToMoveEditions}
use Rattle.store_migration.specs.Migrated.{MayMigrate}
use Rattle.store_holdings.specs.Committed.{IsTreesOf}
use Rattle.store_migration.specs.Moved.{IsRenewedFrom}
use Rattle.store_migration.specs.Spared.{SparesOthers}
use Rattle.store_desk.specs.Desk.{DeskState, KeepsBeside, Shows, LeavesOneOf}
use Rattle.store_desk.specs.Opened.{TellsOfDatabase, IsNotHeld}
use Rattle.store_desk.specs.Over.{ConnectionKeepsBeside}
use Rattle.store_desk.specs.declared.last.LastCall.TheVariants.{Fine}
use Rattle.store_rows.specs.Versions.{known}

-- what an opening may commit: the store was open, and these are trees of a database in which the tables of others are as they were
abbrev pub MayCommitBeside : State → Trees → Type 0
MayCommitBeside s trees = IsTrue s.is_open × IsTreesOf (SparesOthers s.committed) trees

module _ {S : Type 0} (g : Ghosts S) where
  -- The database holds a catalogue, which the desk over it shows, and a stop leaves that one alone. Where its tables are of an
  -- older version, those of the known one were made of them, of the same catalogue, by one commit, and those of the older one are gone;
  -- else nothing was written. The tables of others are as they were, with their indexes, and so are views, and a stop leaves them so.
  pub record IsAdopted (conn : Held S) (desk : DeskState S) : Type 0 where
    pub fine : desk.last ≡ Fine
    pub shows : HasCleanDisk (state g desk.conn) → (M : Catalogue) × Rests known (state g desk.conn) M × Shows g desk M
    pub only : (M : Catalogue) → Shows g desk M → LeavesOneOf g desk (Some M ∷ [])
    pub same : HasCleanDisk (state g desk.conn) → (M : Catalogue) → IsHeld (state g conn).committed M ↔ Holds known (state g desk.conn).committed M
    pub unwritten : HasCleanDisk (state g desk.conn) → (M : Catalogue) → Holds known (state g conn).committed M → (state g desk.conn).committed ≡ (state g conn).committed
    pub moved : HasCleanDisk (state g desk.conn) → (version : ℕ) (M : Catalogue) → version < known → Holds version (state g conn).committed M → IsRenewedFrom version (summary_of M) (state g conn).committed (state g desk.conn).committed
    pub migrated : Survives (state g (record conn { step_limit = None })) (state g desk.conn) (MayMigrate (state g conn))
    pub others : HasCleanDisk (state g desk.conn) → SparesOthers (state g conn).committed (state g desk.conn).committed
    pub beside : Survives (state g (record conn { step_limit = None })) (state g desk.conn) (MayCommitBeside (state g conn))
    pub keeps : (db : Database) → ConnectionKeepsBeside g conn db → KeepsBeside g desk db

  -- The database holds none, and the fault tells why; or it couldn't be told, or its tables couldn't be made those of the known
  -- version. The fault is one of an opening. While the store is open, what it shows and has committed is as it was; and a stop leaves
  -- nothing more, but where the store failed the tables of the known version, of the same catalogue.
  pub record IsNotAdopted (conn left : Held S) (fault : Fault) : Type 0 where
    pub kind : IsOfOpening fault
    pub told : HasCleanDisk (state g left) → TellsOfDatabase (state g conn).now fault
    pub not_held : HasCleanDisk (state g left) → IsNotHeld (state g conn).now fault
    pub same : HasCleanDisk (state g left) → IsTrue (state g left).is_open → ((state g left).now ≡ (state g conn).now) × ((state g left).committed ≡ (state g conn).committed)
    pub adds_none : is_disk fault ≡ false → Survives (state g (record conn { step_limit = None })) (state g left) (λ _. ⊥)
    pub crash : Survives (state g (record conn { step_limit = None })) (state g left) (MayMigrate (state g conn))
    pub beside : Survives (state g (record conn { step_limit = None })) (state g left) (MayCommitBeside (state g conn))

  -- The database holds a catalogue under an older version, and of just this database's tables those of the known one weren't made:
  -- a number of the catalogue is above all that a column holds, or a part of its migration failed, behind all that comes before
  -- that part, or its commit did, behind all of them.
  pub record FailsToRenew (conn left : Held S) : Type 0 where
    pub version : ℕ
    pub older : version < known
    pub catalogue : Catalogue
    pub holds : Holds version (state g conn).committed catalogue
    pub fails : IsBeyond (summary_of catalogue) ⊎ FailsToMoveEditions g version (summary_of catalogue) conn left Disk

  -- Why an opening is told `Disk`: the store failed while the database was read, or the making of its new tables did.
  abbrev pub FailsToOpen : Held S → Held S → Type 0
  FailsToOpen conn left = HasFailedToRead (state g conn) (state g left) ⊎ FailsToRenew conn left
