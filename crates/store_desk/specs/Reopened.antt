-- What is shown where a database is opened again: over octets that it was left in, over its two files, and after a stop.
use Rattle.std.specs.Prelude.{◌≡◌, ◌≢◌, IsTrue, ℕ, ◌+◌, ◌≤◌, List, Option, Some, Contains, take}
use Rattle.sqlite.specs.Recovery.{Image}
use Rattle.sqlite.specs.Tree.{Trees}
use Rattle.sqlite.specs.Files.{HoldsDatabase, IsOpened, Finds, file_state, image_of, over_files}
use Rattle.sqlite.specs.State.{HasCleanDisk}
use Rattle.sqlite.specs.Held.{Held, AreDatabases, IsNew, state}
use Rattle.sqlite.specs.Start.{FindsIn}
use Rattle.sqlite.specs.View.{IsClean, IsQuiet}
use Rattle.sqlite.specs.FileStore.{view, faults, recovers, is_shielded, files}
use Rattle.sqlite.specs.WalFiles.{outcomes}
use Rattle.sqlite.specs.WalReads.{AreClean}
use Rattle.sqlite_disk.specs.declared.Disk as disk
use Rattle.sqlite_disk.specs.declared.Files.{Files as Pair}
use Rattle.sqlite_store.specs.declared.store.FileStore.{FileStore}
use Rattle.sqlite_trees.specs.declared.store.Store.{Ghosts}
use Rattle.dict_catalogue.specs.Steps.{Catalogue, CommandRequest, after}
use Rattle.dict_desk.specs.declared.fault.Fault.{Fault}
use Rattle.dict_desk.specs.declared.fault.Fault.TheVariants.{NotACatalogue, NewerSchema, Damaged}
use Rattle.store_holdings.specs.Holds.{IsLeft}
use Rattle.store_desk.specs.Desk.{DeskState, Shows}
use Rattle.store_desk.specs.Adopted.{IsAdopted}
use Rattle.store_desk.specs.Promise.{HoldsFront}

-- these octets of a log and of its database file are those of a database with such trees
abbrev pub AreTreesIn : (Trees → Type 0) → Image → Type 0
AreTreesIn P image = (db : Trees) × HoldsDatabase image db × P db

-- and of one from which the catalogue is opened
abbrev pub IsIn : Catalogue → Image → Type 0
IsIn M image = AreTreesIn (IsLeft M) image

-- no fault of what a database holds
abbrev pub IsNoFaultOfContents : Fault → Type 0
IsNoFaultOfContents fault = (fault ≢ NotACatalogue) × (fault ≢ NewerSchema) × (fault ≢ Damaged)

-- these octets are those of a database from which the catalogue after a front of the commands is opened
abbrev pub HoldsFrontIn : Catalogue → List CommandRequest → ℕ → Image → Type 0
HoldsFrontIn before requests answered image = (front : ℕ) × (answered ≤ front) × (front ≤ answered + 1) × IsIn (after before (take front requests)) image

module _ {S : Type 0} (g : Ghosts S) where
  -- whatever a stop now leaves stands for the catalogue after a front of the commands, which has each of so many that were
  -- answered
  abbrev pub LeavesFront : DeskState S → Catalogue → List CommandRequest → ℕ → Type 0
  LeavesFront desk before requests answered = HasCleanDisk (state g desk.conn) → (trees : Trees) → (state g desk.conn).may_leave trees → HoldsFront before requests answered trees

  -- the catalogue after such a front is shown
  abbrev pub ShowsFront : DeskState S → Catalogue → List CommandRequest → ℕ → Type 0
  ShowsFront desk before requests answered = (front : ℕ) × (answered ≤ front) × (front ≤ answered + 1) × Shows g desk (after before (take front requests))

  -- one of these catalogues is shown
  abbrev pub ShowsOneOf : DeskState S → List (Option Catalogue) → Type 0
  ShowsOneOf desk ms = (M : Catalogue) × Contains ms (Some M) × Shows g desk M

-- Two files after a stop: they hold what it could leave, a further one leaves nothing else, and no wrong answer is forgotten.
pub record IsStopped {D : Type 0} (d : disk.Ghosts D) (old new : Pair D) : Type 0 where
  pub left : outcomes d old.log old.db (image_of d new)
  pub crash : (image : Image) → outcomes d new.log new.db image → outcomes d old.log old.db image
  pub clean : AreClean d new.log new.db → AreClean d old.log old.db

module _ {D : Type 0} {d : disk.Ghosts D} where
  -- The two files of a connection that was closed, as its store gave them back: what was not committed is undone.
  pub record IsLetGo (conn : Held (FileStore D d)) (left : Pair D) : Type 0 where
    pub store : FileStore D d
    pub numbered : IsClean (view store) → IsTrue (view store).is_numbered
    pub sound : IsClean (view store) → AreDatabases (recovers store)
    pub quiet : IsQuiet view faults recovers is_shielded conn.store store
    pub closed : (left.log, left.db) ≡ files store

  -- The desk adopted the database that two files were opened as, with what they held; and it shows the catalogue that is opened from the trees of that.
  pub record IsOpenedOver (files : Pair D) (desk : DeskState (FileStore D d)) : Type 0 where
    pub conn : Held (FileStore D d)
    pub opened : HasCleanDisk (file_state conn) → IsOpened conn × Finds files conn
    pub adopted : IsAdopted over_files conn desk
    pub left : HasCleanDisk (file_state desk.conn) → (M : Catalogue) → IsLeft M (file_state conn).committed.trees → Shows over_files desk M

  -- The desk adopted the database that files with these octets were opened as, of which nothing was asked before.
  pub record IsAdoptedFrom (image : Image) (desk : DeskState (FileStore D d)) : Type 0 where
    pub conn : Held (FileStore D d)
    pub opened : HasCleanDisk (file_state conn) → IsOpened conn × FindsIn image (file_state conn)
    pub new : IsNew conn
    pub adopted : IsAdopted over_files conn desk

  -- The desk is over the two files that a desk let go of.
  pub record IsReopened (old new : DeskState (FileStore D d)) : Type 0 where
    pub files : Pair D
    pub let_go : IsLetGo old.conn files
    pub over : IsOpenedOver files new

  -- The same after a stop of those files.
  pub record IsRestarted (old new : DeskState (FileStore D d)) : Type 0 where
    pub files : Pair D
    pub let_go : IsLetGo old.conn files
    pub stopped : Pair D
    pub stop : IsStopped d files stopped
    pub over : IsOpenedOver stopped new
