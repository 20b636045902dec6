-- What is left where a database is not opened again, and why it isn't.
use Rattle.std.specs.Prelude.{◌≡◌, ◌⊎◌, ◌&&◌, false, IsTrue, ℕ, List, Option, Some, None, Contains}
use Rattle.sqlite.specs.Recovery.{Image}
use Rattle.sqlite.specs.Tree.{Trees}
use Rattle.sqlite.specs.Files.{HoldsDatabase, IsOpened, Finds, IsCleanLeft, IsFullLeft, FailsToOpenFiles, LeavesFiles, faults_of, faults_left, file_state, image_of, over_files}
use Rattle.sqlite.specs.Opening.{is_open_error}
use Rattle.sqlite.specs.Start.{FindsIn}
use Rattle.sqlite.specs.State.{HasCleanDisk}
use Rattle.sqlite.specs.Held.{Held}
use Rattle.sqlite.specs.WalFiles.{outcomes}
use Rattle.sqlite.specs.WalReads.{AreClean}
use Rattle.sqlite.specs.FileStore.{recovers}
use Rattle.sqlite.specs.declared.error.Error.{Error}
use Rattle.sqlite.specs.declared.error.Error.TheVariants.{SqliteFailure}
use Rattle.sqlite.specs.declared.error.ErrorCode.TheVariants as code
use Rattle.sqlite.specs.declared.file.Leftover.{Leftover}
use Rattle.sqlite.specs.declared.file.Leftover.TheVariants as rest
use Rattle.sqlite_disk.specs.Disk.{MoreFaults}
use Rattle.sqlite_disk.specs.declared.Disk as disk
use Rattle.sqlite_disk.specs.declared.Files.{Files as Pair}
use Rattle.sqlite_pool.specs.Stored.{Recovers}
use Rattle.sqlite_store.specs.Unopened.{state_of}
use Rattle.sqlite_store.specs.declared.store.FileStore.{FileStore}
use Rattle.dict_catalogue.specs.Steps.{Catalogue, CommandRequest}
use Rattle.dict_desk.specs.declared.fault.Fault.{Fault}
use Rattle.dict_desk.specs.declared.fault.Fault.TheVariants.{Memory, Disk, NotACatalogue}
use Rattle.store_opening.specs.Reading.{IsOfOpening}
use Rattle.sqlite.specs.Effect.{Database as Contents}
use Rattle.store_desk.specs.Desk.{DeskState, HasBeside, IsOneOf, KeepsBeside, LeavesOneOf, StandsFor}
use Rattle.store_desk.specs.Opened.{IsNotLeft}
use Rattle.store_desk.specs.Adopted.{IsNotAdopted, FailsToOpen}
use Rattle.store_desk.specs.Reopened.{AreTreesIn, IsIn, IsNoFaultOfContents, IsLetGo, IsStopped, LeavesFront}
use Rattle.store_desk.specs.declared.reopening.Unopened.{Unopened}
use Rattle.store_desk.specs.declared.reopening.Unopened.TheVariants.{Files, Spent, Database}

-- memory ran out, or the files are refused
abbrev pub fault_of_files : Error → Fault
fault_of_files (SqliteFailure code.OutOfMemory) = Memory
fault_of_files _ = NotACatalogue

-- ---- what a stop leaves of that which is handed back

-- octets of a log and of its database file that hold a catalogue, or none
abbrev pub StandsInImage : Option Catalogue → Image → Type 0
StandsInImage m image = AreTreesIn (StandsFor m) image

-- No page of a database in these octets waits for its sum, as one in a log may to which a `sqlite3` without sums has written.
abbrev pub IsSealed : Image → Type 0
IsSealed image = (db : Trees) (held : HoldsDatabase image db) → Recovers held.0 image held.2.pages

-- Two files hold these octets, and a stop leaves these alone; no wrong answer of them has been taken as true.
pub record HaveOctets {D : Type 0} (d : disk.Ghosts D) (image : Image) (files : Pair D) : Type 0 where
  pub seen : image_of d files ≡ image
  pub only : (left : Image) → outcomes d files.log files.db left → left ≡ image
  pub clean : AreClean d files.log files.db

module _ {D : Type 0} {d : disk.Ghosts D} where
  -- A stop leaves such trees of what `sqlite` left of two files.
  abbrev pub RestLeaves : (Trees → Type 0) → Leftover D d → Type 0
  RestLeaves P (rest.Files now) = (left : Image) → outcomes d now.log now.db left → ∥ AreTreesIn P left ∥₁
  RestLeaves P (rest.Unopened now) = (left : Image) → (state_of now).may_leave left → ∥ AreTreesIn P left ∥₁
  RestLeaves P (rest.Store now) = (trees : Trees) → recovers now trees → ∥ P trees ∥₁

  -- Where `sqlite` had begun to write two files with these octets, no page waited for its sum.
  abbrev pub WasSealed : Image → Leftover D d → Type 0
  WasSealed image (rest.Files now) = Unit {0}
  WasSealed image (rest.Unopened now) = IsSealed image
  WasSealed image (rest.Store now) = Unit {0}

  -- A stop leaves such trees of what is handed back of two files, while no wrong answer of them was taken as true.
  abbrev pub HandsBack : Pair D → (Trees → Type 0) → Unopened D d → Type 0
  HandsBack files P (Files None) = ⊥
  HandsBack files P (Files (Some now)) = AreClean d files.log files.db → IsCleanLeft now → RestLeaves P now
  HandsBack files P (Spent now) = AreClean d now.log now.db → (left : Image) → outcomes d now.log now.db left → ∥ AreTreesIn P left ∥₁
  HandsBack files P (Database now) = HasCleanDisk (file_state now) → (trees : Trees) → (file_state now).may_leave trees → ∥ P trees ∥₁

  -- ---- why

  -- `sqlite` refused two files, or failed: its error is this, which has its own cause, and the fault is that of the error; and
  -- nothing of what the files stood for is lost.
  pub record AreFilesRefused (files : Pair D) (now : Leftover D d) (fault : Fault) : Type 0 where
    pub error : Error
    pub named : IsTrue (is_open_error error)
    pub told : fault ≡ fault_of_files error
    pub kind : IsOfOpening fault
    pub cause : IsCleanLeft now → FailsToOpenFiles files now error
    pub unharmed : IsCleanLeft now → LeavesFiles files now

  -- The database that two files were opened as, with what they held, is handed back, and no desk adopted it, for this fault.
  pub record IsRejected (files : Pair D) (now : Held (FileStore D d)) (fault : Fault) : Type 0 where
    pub conn : Held (FileStore D d)
    pub opened : HasCleanDisk (file_state conn) → IsOpened conn × Finds files conn
    pub adopted : IsNotAdopted over_files conn now fault
    pub failed : HasCleanDisk (file_state now) → fault ≡ Disk → FailsToOpen over_files (record conn { step_limit = None }) now
    pub autocommit : now.in_transaction ≡ false
    pub not_left : HasCleanDisk (file_state now) → IsTrue (file_state conn).is_open → IsNotLeft (file_state conn).now.trees fault

  -- No desk adopted this database, for this fault; and it is handed back so.
  pub record IsNoDesk (conn now : Held (FileStore D d)) (fault : Fault) : Type 0 where
    pub adopted : IsNotAdopted over_files conn now fault
    pub failed : HasCleanDisk (file_state now) → fault ≡ Disk → FailsToOpen over_files (record conn { step_limit = None }) now
    pub autocommit : now.in_transaction ≡ false
    pub not_left : HasCleanDisk (file_state now) → IsTrue (file_state conn).is_open → IsNotLeft (file_state conn).now.trees fault

  abbrev pub IsHandedBack : Held (FileStore D d) → Unopened D d → Fault → Type 0
  IsHandedBack conn (Files now) fault = ⊥
  IsHandedBack conn (Spent spent) fault = ⊥
  IsHandedBack conn (Database now) fault = IsNoDesk conn now fault

  -- Over two files there is no desk, for this fault.
  abbrev pub IsUnopenedOver : Pair D → Unopened D d → Fault → Type 0
  IsUnopenedOver files (Files None) fault = ⊥
  IsUnopenedOver files (Files (Some now)) fault = AreFilesRefused files now fault
  IsUnopenedOver files (Spent spent) fault = ⊥
  IsUnopenedOver files (Database now) fault = IsRejected files now fault

  -- The same; or a sync of one has failed, and both are handed back as they were.
  abbrev pub IsUnopenedAgain : Pair D → Unopened D d → Fault → Type 0
  IsUnopenedAgain files (Files now) fault = IsUnopenedOver files (Files now) fault
  IsUnopenedAgain files (Spent spent) fault = (spent ≡ files) × (fault ≡ Disk) × ((d.is_usable files.log && d.is_usable files.db) ≡ false)
  IsUnopenedAgain files (Database now) fault = IsRejected files now fault

  -- Files that hold a database are refused only where memory ran out, the disk failed, or a file is at its greatest length.
  abbrev pub IsExcused : Pair D → Unopened D d → Fault → Type 0
  IsExcused files (Files None) fault = ⊥
  IsExcused files (Files (Some now)) fault = AreClean d files.log files.db → IsCleanLeft now → (fault ≡ Memory) ⊎ (MoreFaults (faults_of d files) (faults_left now) ⊎ IsFullLeft now)
  IsExcused files (Spent spent) fault = Unit {0}
  IsExcused files (Database now) fault = Unit {0}

  -- The fault of a database that is handed back is none of what it holds.
  abbrev pub TellsNoHolding : Unopened D d → Fault → Type 0
  TellsNoHolding (Files now) fault = Unit {0}
  TellsNoHolding (Spent spent) fault = Unit {0}
  TellsNoHolding (Database now) fault = HasCleanDisk (file_state now) → IsNoFaultOfContents fault

  -- ---- desks that are opened again

  -- There is no desk over the two files that a desk let go of. What is handed back leaves nothing that the desk couldn't leave, with the
  -- tables of others that the desk kept; and where that was always a catalogue, no fault tells of what their database holds.
  pub record IsUnreopened (desk : DeskState (FileStore D d)) (left : Unopened D d) (fault : Fault) : Type 0 where
    pub files : Pair D
    pub let_go : IsLetGo desk.conn files
    pub why : IsUnopenedAgain files left fault
    pub kind : IsOfOpening fault
    pub excused : IsExcused files left fault
    pub leaves : (ms : List (Option Catalogue)) → LeavesOneOf over_files desk ms → HandsBack files (IsOneOf ms) left
    pub beside : (db : Contents) → KeepsBeside over_files desk db → HandsBack files (HasBeside db) left
    pub of_store : (ms : List (Option Catalogue)) → LeavesOneOf over_files desk ms → (Contains ms None → ⊥) → TellsNoHolding left fault

  -- The same after a stop of those files.
  pub record IsUnrestarted (desk : DeskState (FileStore D d)) (left : Unopened D d) (fault : Fault) : Type 0 where
    pub files : Pair D
    pub let_go : IsLetGo desk.conn files
    pub stopped : Pair D
    pub stop : IsStopped d files stopped
    pub why : IsUnopenedOver stopped left fault
    pub kind : IsOfOpening fault
    pub excused : IsExcused stopped left fault
    pub leaves : (ms : List (Option Catalogue)) → LeavesOneOf over_files desk ms → HandsBack stopped (IsOneOf ms) left
    pub beside : (db : Contents) → KeepsBeside over_files desk db → HandsBack stopped (HasBeside db) left
    pub of_store : (ms : List (Option Catalogue)) → LeavesOneOf over_files desk ms → (Contains ms None → ⊥) → TellsNoHolding left fault
    pub of_front : (before : Catalogue) (requests : List CommandRequest) (answered : ℕ) → LeavesFront over_files desk before requests answered → TellsNoHolding left fault

  -- ---- and files at a path

  -- `sqlite` refused two files with these octets, or failed. What is handed back leaves what the octets hold, with the tables of others;
  -- where it had begun to write, that is told of octets of which no page waited for its sum.
  pub record IsRefusedFrom (image : Image) (now : Leftover D d) (fault : Fault) : Type 0 where
    pub files : Pair D
    pub octets : HaveOctets d image files
    pub why : AreFilesRefused files now fault
    pub leaves : (m : Option Catalogue) → StandsInImage m image → WasSealed image now → IsCleanLeft now → RestLeaves (StandsFor m) now
    pub beside : (db : Contents) → AreTreesIn (HasBeside db) image → WasSealed image now → IsCleanLeft now → RestLeaves (HasBeside db) now

  -- The database that files with these octets were opened as is handed back, and no desk adopted it. It leaves what the octets hold,
  -- and where that is a catalogue, no fault tells of what it holds.
  pub record IsRejectedFrom (image : Image) (now : Held (FileStore D d)) (fault : Fault) : Type 0 where
    pub conn : Held (FileStore D d)
    pub opened : HasCleanDisk (file_state conn) → IsOpened conn × FindsIn image (file_state conn)
    pub adopted : IsNotAdopted over_files conn now fault
    pub failed : HasCleanDisk (file_state now) → fault ≡ Disk → FailsToOpen over_files (record conn { step_limit = None }) now
    pub autocommit : now.in_transaction ≡ false
    pub of_store : (M : Catalogue) → IsIn M image → HasCleanDisk (file_state now) → IsNoFaultOfContents fault
    pub leaves : (m : Option Catalogue) → StandsInImage m image → HasCleanDisk (file_state now) → (trees : Trees) → (file_state now).may_leave trees → StandsFor m trees

  -- The files at a path couldn't be had, for this error of `sqlite`; or there is no desk over two files with these octets.
  abbrev pub IsUnopened : Image → Unopened D d → Fault → Type 0
  IsUnopened image (Files None) fault =
      (error : Error) × (fault ≡ fault_of_files error)
      × ((error ≡ SqliteFailure code.CannotOpen) ⊎ ((error ≡ SqliteFailure code.OutOfMemory) ⊎ (error ≡ SqliteFailure code.DatabaseBusy)))
  IsUnopened image (Files (Some now)) fault = IsRefusedFrom image now fault
  IsUnopened image (Spent spent) fault = ⊥
  IsUnopened image (Database now) fault = IsRejectedFrom image now fault
