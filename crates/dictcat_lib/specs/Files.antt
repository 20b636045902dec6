-- The files of a catalogue: the connection that they are opened as, and what is left of it.
use Rattle.std.specs.Prelude.{◌≡◌, true, List, Option, Some, None, Contains, ⊤}
use Rattle.sqlite.specs.Effect.{Database}
use Rattle.sqlite.specs.FileStore.{view, files as files_in}
use Rattle.sqlite.specs.Files.{IsBlankAs, IsClosed, IsCleanLeft, IsOpened, file_state, over_files}
use Rattle.sqlite.specs.Held.{Held, IsNew}
use Rattle.sqlite.specs.Recovery.{Image}
use Rattle.sqlite.specs.Start.{FindsIn}
use Rattle.sqlite.specs.State.{HasCleanDisk}
use Rattle.sqlite.specs.View.{IsClean}
use Rattle.sqlite.specs.WalReads.{AreClean}
use Rattle.sqlite_disk.specs.declared.Disk as disk
use Rattle.sqlite_disk.specs.declared.Files.{Files}
use Rattle.sqlite_store.specs.declared.store.FileStore.{FileStore}
use Rattle.dict_catalogue.specs.Steps.{Catalogue}
use Rattle.dict_desk.specs.declared.fault.Fault.{Fault as DeskFault}
use Rattle.app_words.specs.Faults.{told_of}
use Rattle.app_words.specs.declared.fault.ProgramFault.{ProgramFault}
use Rattle.store_desk.specs.Closed.{HoldTreesAlone, HoldsAlone, IsUncopied, StoreLeaves}
use Rattle.store_desk.specs.Desk.{DeskState, HasBeside, IsOneOf, KeepsBeside}
use Rattle.store_desk.specs.Reopened.{IsLetGo}
use Rattle.store_desk.specs.Unopened.{HandsBack}
use Rattle.store_desk.specs.declared.reopening.Unopened.{Unopened}
use Rattle.store_desk.specs.declared.reopening.Unopened.TheVariants as handed
use Rattle.dictcat_lib.specs.declared.left.Left.{Left}
use Rattle.dictcat_lib.specs.declared.left.Left.TheVariants as left

module _ {D : Type 0} {g : disk.Ghosts D} where
  -- The connection that two files with these octets were opened as: it shows what they hold, and nothing was asked of it. Where they held
  -- no database, each page that is written ends in a sum, unless an earlier opening began a file without.
  pub record IsOpenedFrom (image : Image) (conn : Held (FileStore D g)) : Type 0 where
    pub live : HasCleanDisk (file_state conn) → IsOpened conn × FindsIn image (file_state conn)
    pub sums : HasCleanDisk (file_state conn) → IsBlankAs true image → (view conn.store).has_sums ≡ true
    pub new : IsNew conn

  -- A connection was closed, and a stop leaves nothing more: its two files are left, whose log was copied; or its store, whose log wasn't.
  abbrev pub IsPutAway : Held (FileStore D g) → Left D g → Type 0
  IsPutAway conn (left.Closed files) = (last : FileStore D g) × (files_in last ≡ (files.log, files.db)) × IsClosed conn last
  IsPutAway conn (left.Uncopied store) = IsClosed conn store
  IsPutAway conn (left.Unopened rest) = ⊥

  -- what is held of a file is a connection that was closed
  abbrev pub IsHeldOf : Held (FileStore D g) → Option (Left D g) → Type 0
  IsHeldOf conn None = ⊥
  IsHeldOf conn (Some it) = IsPutAway conn it

  -- what was handed back has returned what was written to it
  abbrev pub IsSafeRest : Unopened D g → Type 0
  IsSafeRest (handed.Files None) = ⊤
  IsSafeRest (handed.Files (Some rest)) = IsCleanLeft rest
  IsSafeRest (handed.Spent files) = AreClean g files.log files.db
  IsSafeRest (handed.Database conn) = HasCleanDisk (file_state conn)

  -- so has what is held, if something is
  abbrev pub IsSafe : Option (Left D g) → Type 0
  IsSafe None = ⊤
  IsSafe (Some (left.Closed files)) = AreClean g files.log files.db
  IsSafe (Some (left.Uncopied store)) = IsClean (view store)
  IsSafe (Some (left.Unopened rest)) = IsSafeRest rest

  -- the database file holds this catalogue without its log
  abbrev pub IsAloneIn : Option (Left D g) → Catalogue → Type 0
  IsAloneIn (Some (left.Closed files)) M = HoldsAlone g files M
  IsAloneIn _ M = ⊥

  -- Whatever a stop now leaves of what is held of a desk's file, with its log, is one of these. Of two files that weren't opened again it
  -- is what they held as the desk let go of them.
  abbrev pub StillLeaves : DeskState (FileStore D g) → Option (Left D g) → List (Option Catalogue) → Type 0
  StillLeaves desk None ms = ⊥
  StillLeaves desk (Some (left.Closed files)) ms = (M : Catalogue) × Contains ms (Some M) × HoldsAlone g files M
  StillLeaves desk (Some (left.Uncopied store)) ms = StoreLeaves store (IsOneOf ms)
  StillLeaves desk (Some (left.Unopened rest)) ms = (files : Files D) × IsLetGo desk.conn files × HandsBack files (IsOneOf ms) rest

  -- and it has the tables of others that this database has, as they are there
  abbrev pub StillKeeps : DeskState (FileStore D g) → Option (Left D g) → Database → Type 0
  StillKeeps desk None db = ⊥
  StillKeeps desk (Some (left.Closed files)) db = AreClean g files.log files.db → HoldTreesAlone g files (HasBeside db)
  StillKeeps desk (Some (left.Uncopied store)) db = StoreLeaves store (HasBeside db)
  StillKeeps desk (Some (left.Unopened rest)) db = (files : Files D) × IsLetGo desk.conn files × HandsBack files (HasBeside db) rest

  -- so it is of whatever the desk kept beside its catalogue
  abbrev pub KeepsWhatWasBeside : DeskState (FileStore D g) → Option (Left D g) → Type 0
  KeepsWhatWasBeside desk held = (db : Database) → KeepsBeside over_files desk db → StillKeeps desk held db

  -- why the log of a desk wasn't copied, of the store that is left, as the program tells it
  abbrev pub IsToldUncopied : DeskState (FileStore D g) → Option (Left D g) → ProgramFault → Type 0
  IsToldUncopied desk (Some (left.Uncopied store)) fault = (why : DeskFault) × (fault ≡ told_of why) × IsUncopied desk store why
  IsToldUncopied desk _ fault = ⊥
