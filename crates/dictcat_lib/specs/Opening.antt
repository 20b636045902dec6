-- What comes of a task over a file's database: what its file is opened as, and a catalogue that is made, or a session.
use Rattle.std.specs.Prelude.{◌≡◌, ◌≢◌, false, ℕ, List, [], ◌∷◌, Option, Some, None, Result, Ok, Err, codes, ⊤}
use Rattle.sqlite.specs.Effect.{Database}
use Rattle.sqlite.specs.State.{HasCleanDisk, Survives}
use Rattle.sqlite.specs.Held.{Held, state}
use Rattle.sqlite_trees.specs.declared.store.Store.{Ghosts}
use Rattle.dict_catalogue.specs.Steps.{Catalogue, empty_catalogue}
use Rattle.dict_desk.specs.Faults.{is_disk}
use Rattle.dict_desk.specs.declared.fault.Fault.{Fault as DeskFault}
use Rattle.dict_desk.specs.declared.fault.Fault.TheVariants.{NotACatalogue, Disk}
use Rattle.store_holdings.specs.Holds.{Holds, Rests, IsLeftAs, HasPlace}
use Rattle.store_migration.specs.Making.{creation, CreationFailsToEnd}
use Rattle.store_holdings.specs.Committed.{IsTreesOf}
use Rattle.store_migration.specs.Spared.{SparesOthers}
use Rattle.store_opening.specs.Reading.{IsOfOpening, HasFailedToRead}
use Rattle.store_rows.specs.Versions.{known}
use Rattle.dict_proto.specs.Streams.{StreamChange}
use Rattle.dict_session.specs.declared.session.run.SessionEnd.{SessionEnd}
use Rattle.dict_session.specs.declared.session.run.SessionFault.{SessionFault}
use Rattle.dict_session.specs.declared.session.run.SessionFault.TheVariants as session_faults
use Rattle.store_desk.specs.Desk.{DeskState, KeepsBeside, Shows, LeavesOneOf, is_closed}
use Rattle.store_desk.specs.Opened.{TellsOfDatabase, IsNotHeld}
use Rattle.store_desk.specs.Over.{HasRun, ConnectionKeepsBeside, ConnectionLeavesOneOf}
use Rattle.app_words.specs.Faults.{told_of}
use Rattle.app_words.specs.declared.fault.ProgramFault.{ProgramFault}
use Rattle.app_words.specs.declared.fault.ProgramFault.TheVariants as faults

-- what is told of a session over a database
abbrev pub over_told : Result SessionEnd SessionFault → Result (Unit {0}) ProgramFault
over_told (Ok end) = Ok tt
over_told (Err session_faults.Memory) = Err faults.Memory
over_told (Err session_faults.Read) = Err faults.SessionEnded
over_told (Err session_faults.Write) = Err faults.SessionEnded
over_told (Err session_faults.Broken) = Err faults.SessionEnded

module _ {S : Type 0} (g : Ghosts S) where
  -- A catalogue was made in the database: the desk shows the empty one, and a stop leaves that one alone. The tables of others are as
  -- they were, and a stop leaves them so.
  pub record IsCreated (conn : Held S) (desk : DeskState S) : Type 0 where
    pub place : HasPlace (state g conn).now.schema
    pub shows : Shows g desk empty_catalogue
    pub rests : HasCleanDisk (state g desk.conn) → Rests known (state g desk.conn) empty_catalogue
    pub only : LeavesOneOf g desk (Some empty_catalogue ∷ [])
    pub others : HasCleanDisk (state g desk.conn) → SparesOthers (state g conn).now (state g desk.conn).now
    pub beside : Survives (state g (record conn { step_limit = None })) (state g desk.conn) (IsTreesOf (SparesOthers (state g conn).now))
    pub keeps : (db : Database) → ConnectionKeepsBeside g conn db → KeepsBeside g desk db

  -- None was made: there is no place for it; or a part of its making failed, behind those before it, or its commit did. Only where the
  -- store failed may a stop leave the empty catalogue, beside the tables of others as they were.
  pub record IsNotCreated (conn left : Held S) (fault : DeskFault) : Type 0 where
    pub no_place : fault ≡ NotACatalogue → (HasPlace (state g conn).now.schema → ⊥) × (left ≡ record conn { step_limit = None })
    pub crash : Survives (state g (record conn { step_limit = None })) (state g left) (IsLeftAs known empty_catalogue)
    pub failed : HasCleanDisk (state g left) → fault ≢ NotACatalogue → CreationFailsToEnd g (creation known) (λ db. Holds known db empty_catalogue) (record conn { step_limit = None }) left fault
    pub adds_none : is_disk fault ≡ false → Survives (state g (record conn { step_limit = None })) (state g left) (λ _. ⊥)
    pub beside : Survives (state g (record conn { step_limit = None })) (state g left) (IsTreesOf (SparesOthers (state g conn).now))

  -- the database of a desk was read whole, and holds a catalogue at rest
  abbrev pub IsSound : DeskState S → Type 0
  IsSound new = HasCleanDisk (state g new.conn) → (M : Catalogue) × Rests known (state g new.conn) M

  -- What is committed was read, and the fault, as the program tells it, is what that holds instead; or it couldn't be read, since its store
  -- failed or memory ran out. Of a desk that is open it is one of the faults of an opening.
  abbrev pub IsUnsound : DeskState S → DeskState S → ProgramFault → Type 0
  IsUnsound old new fault =
      (why : DeskFault) × (fault ≡ told_of why) × (is_closed old.last ≡ false → IsOfOpening why) × (HasCleanDisk (state g new.conn) → TellsOfDatabase (state g old.conn).committed why × IsNotHeld (state g old.conn).committed why
      × (why ≡ Disk → HasFailedToRead (state g old.conn) (state g new.conn)))

  -- A session over the catalogue of an opened database ended so, and left this desk of it.
  pub record HasSpoken (conn : Held S) (desk : DeskState S) (end : Result SessionEnd SessionFault) (reader writer : StreamChange) : Type 0 where
    pub ran : HasCleanDisk (state g desk.conn) → HasRun g conn desk (codes "localhost") 1 end reader writer
    pub leaves : (ms : List (Option Catalogue)) → ConnectionLeavesOneOf g conn ms → LeavesOneOf g desk ms
    pub beside : (db : Database) → ConnectionKeepsBeside g conn db → KeepsBeside g desk db
