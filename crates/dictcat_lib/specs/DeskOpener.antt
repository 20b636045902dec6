-- The desk of a file's catalogue.
use Rattle.std.specs.Prelude.{◌≡◌, ◌⊎◌, ℕ, Bool, true, false, List, Option, Some, None, Result, Err}
use Rattle.sqlite.specs.Recovery.{Image}
use Rattle.sqlite.specs.State.{HasCleanDisk}
use Rattle.sqlite.specs.Files.{file_state, over_files}
use Rattle.sqlite.specs.Held.{Held}
use Rattle.sqlite.specs.declared.file.Leftover.{Leftover}
use Rattle.sqlite_disk.specs.declared.Disk as disk
use Rattle.sqlite_store.specs.declared.store.FileStore.{FileStore}
use Rattle.dict_catalogue.specs.Steps.{Catalogue}
use Rattle.dict_desk.specs.declared.fault.Fault.{Fault as DeskFault}
use Rattle.dict_desk.specs.declared.fault.Fault.TheVariants as desk_faults
use Rattle.store_desk.specs.Desk.{DeskState, KeepsBeside, Shows}
use Rattle.store_desk.specs.Adopted.{IsAdopted}
use Rattle.store_desk.specs.Reopened.{IsIn, IsReopened}
use Rattle.store_desk.specs.Unopened.{IsRefusedFrom, IsRejectedFrom, IsUnreopened}
use Rattle.store_desk.specs.declared.reopening.Unopened.{Unopened}
use Rattle.store_desk.specs.declared.reopening.Unopened.TheVariants as handed
use Rattle.dict_proto.specs.Streams.{StreamChange}
use Rattle.dict_session.specs.declared.session.run.SessionEnd.{SessionEnd}
use Rattle.dict_session.specs.declared.session.run.SessionFault.{SessionFault}
use Rattle.app_words.specs.Writing.{IsUntouched}
use Rattle.app_words.specs.Faults.{told_of}
use Rattle.app_words.specs.declared.fault.ProgramFault.{ProgramFault}
use Rattle.app_words.specs.declared.fault.ProgramFault.TheVariants as faults
use Rattle.dictcat_lib.specs.Files.{IsHeldOf, IsOpenedFrom}
use Rattle.dictcat_lib.specs.Opening.{HasSpoken, IsCreated, IsNotCreated, over_told}
use Rattle.dictcat_lib.specs.declared.left.Left.{Left}
use Rattle.dictcat_lib.specs.declared.left.Left.TheVariants as left

-- the file with this path is told to be unreadable
abbrev pub IsToldUnreadable : List ℕ → ProgramFault → Type 0
IsToldUnreadable path fault = (told : _) × (fault ≡ faults.CannotRead told) × (told.now ≡ path)

-- what the program tells of files that can't be had, for this fault
abbrev pub TellsUnhad : List ℕ → DeskFault → ProgramFault → Type 0
TellsUnhad path desk_faults.Memory fault = fault ≡ faults.Memory
TellsUnhad path why fault = IsToldUnreadable path fault

-- The files at a path aren't had, as the program tells it: what opens files was used before; or they are refused.
abbrev pub IsNotHad : {O : Type 0} → (DeskFault → Type 0) → List ℕ → Option O → ProgramFault → Type 0
IsNotHad Refuses path start fault = ((start ≡ None) × IsToldUnreadable path fault) ⊎ ((why : DeskFault) × Refuses why × TellsUnhad path why fault)

module _ {D : Type 0} {d : disk.Ghosts D} where
  -- what the desk stands on has returned what was written
  abbrev pub IsTrusted : DeskState (FileStore D d) → Type 0
  IsTrusted desk = HasCleanDisk (file_state desk.conn)

  -- what the program tells of files that aren't opened, where this is handed back of them, for this fault
  abbrev pub TellsUnopened : List ℕ → Unopened D d → DeskFault → ProgramFault → Type 0
  TellsUnopened path (handed.Files rest) why fault = TellsUnhad path why fault
  TellsUnopened path (handed.Spent files) why fault = fault ≡ told_of why
  TellsUnopened path (handed.Database conn) why fault = fault ≡ told_of why

  -- The file of a desk isn't opened again, as the program tells it: what is held was handed back, and the store's fault tells why.
  abbrev pub IsNoDeskAgain : List ℕ → DeskState (FileStore D d) → Option (Left D d) → ProgramFault → Type 0
  IsNoDeskAgain path desk (Some (left.Unopened rest)) fault = (why : DeskFault) × IsUnreopened desk rest why × TellsUnopened path rest why fault
  IsNoDeskAgain path desk held fault = ⊥

-- By the octets that the two files at the path hold as they are opened, which is done once: what stands for them is there until then.
module _ {D : Type 0} {d : disk.Ghosts D} (image : Image) where
  -- The desk adopted the database that the files with these octets were opened as, and shows the catalogue that the octets hold; and
  -- a stop leaves the tables of others as they were found.
  pub record HasAdopted (desk : DeskState (FileStore D d)) : Type 0 where
    pub conn : Held (FileStore D d)
    pub opened : IsOpenedFrom image conn
    pub adopted : IsAdopted over_files conn desk
    pub kept : KeepsBeside over_files desk (file_state conn).committed
    pub shows : HasCleanDisk (file_state desk.conn) → (M : Catalogue) → IsIn M image → Shows over_files desk M

  -- it did; or, after another desk, it adopted the one that the files of that were opened as again
  abbrev pub IsDesk : Option (DeskState (FileStore D d)) → DeskState (FileStore D d) → Type 0
  IsDesk None desk = HasAdopted desk
  IsDesk (Some former) desk = IsReopened former desk

  -- the desk is one over the catalogue that was made in the database that the files with these octets were opened as
  abbrev pub IsMadeDesk : DeskState (FileStore D d) → Type 0
  IsMadeDesk desk = (conn : Held (FileStore D d)) × IsOpenedFrom image conn × IsCreated over_files conn desk

-- By why files at a path can't be had, too: where the database has to be there, or may be made.
module _ {D : Type 0} {d : disk.Ghosts D} (image : Image) (refuses : List ℕ → Bool → DeskFault → Type 0) where
  -- The file at a path wasn't opened, as the program tells it: it isn't had, and what is held is as it was; or `sqlite` didn't open what was
  -- had, for this error, and what it left of it is held. What opens files was used.
  abbrev pub IsNotOpened : {O : Type 0} → List ℕ → Bool → Option O → Option O → Option (Left D d) → Option (Left D d) → ProgramFault → Type 0
  IsNotOpened path made old new before held fault =
      (IsNotHad (refuses path made) path old fault × (new ≡ None) × (held ≡ before))
      ⊎ ((rest : Leftover D d) × (why : DeskFault) × (held ≡ Some (left.Unopened (handed.Files (Some rest)))) × (new ≡ None) × IsRefusedFrom image rest why × TellsUnhad path why fault)

  -- There is no desk: it wasn't opened; or none adopted the database that it was opened as, the store's fault tells why, and what is held
  -- is what the close of that left.
  abbrev pub IsNoDeskAt : {O : Type 0} → List ℕ → Option O → Option O → Option (Left D d) → Option (Left D d) → ProgramFault → Type 0
  IsNoDeskAt path old new before held fault = IsNotOpened path false old new before held fault
      ⊎ ((refused : Held (FileStore D d)) × (why : DeskFault) × IsRejectedFrom image refused why × (fault ≡ told_of why) × IsHeldOf refused held)

  -- and why no catalogue is made in it
  abbrev pub IsUnmade : {O : Type 0} → List ℕ → Option O → Option O → Option (Left D d) → Option (Left D d) → ProgramFault → Type 0
  IsUnmade path old new before held fault = IsNotOpened path true old new before held fault
      ⊎ ((conn : Held (FileStore D d)) × (refused : Held (FileStore D d)) × (why : DeskFault) × IsOpenedFrom image conn × IsNotCreated over_files conn refused why
      × (fault ≡ told_of why) × IsHeldOf refused held)

  -- what comes of a session over the catalogue in the file with a path: in the database that it was opened as
  abbrev pub HasSpokenOver : {O : Type 0} → List ℕ → Option (DeskState (FileStore D d)) → Option O → Option O → Option (Left D d) → Option (Left D d) → Result (Unit {0}) ProgramFault → StreamChange → StreamChange → Type 0
  HasSpokenOver path None old new before held result reader writer =
      ((fault : ProgramFault) × (result ≡ Err fault) × IsNoDeskAt path old new before held fault) × IsUntouched reader × IsUntouched writer
  HasSpokenOver path (Some desk) old new before held result reader writer =
      (conn : Held (FileStore D d)) × (end : Result SessionEnd SessionFault) × (result ≡ over_told end) × IsOpenedFrom image conn × HasSpoken over_files conn desk end reader writer
