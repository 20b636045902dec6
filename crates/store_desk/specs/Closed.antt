-- What a close leaves of the two files of a desk.
use Rattle.std.specs.Prelude.{◌≡◌, ◌⊎◌, true, []}
use Rattle.sqlite.specs.Recovery.{Image}
use Rattle.sqlite.specs.Files.{image_of, FailsToClose}
use Rattle.sqlite.specs.FileStore.{view, recovers}
use Rattle.sqlite.specs.Tree.{Trees}
use Rattle.sqlite.specs.View.{IsClean}
use Rattle.sqlite.specs.WalFiles.{outcomes}
use Rattle.sqlite_disk.specs.declared.Disk as disk
use Rattle.sqlite_disk.specs.declared.Files.{Files as Pair}
use Rattle.sqlite_store.specs.declared.store.FileStore.{FileStore}
use Rattle.sqlite.specs.declared.error.Error.{Error}
use Rattle.dict_catalogue.specs.Steps.{Catalogue}
use Rattle.dict_desk.specs.declared.fault.Fault.{Fault}
use Rattle.dict_desk.specs.declared.fault.Fault.TheVariants.{Disk}
use Rattle.store_holdings.specs.Holds.{IsLeft}
use Rattle.store_desk.specs.Desk.{DeskState, is_closed}
use Rattle.store_desk.specs.Reopened.{AreTreesIn}
use Rattle.store_holdings.specs.Faults.{fault_of}

-- the octets of a log and of its database file are those of a database with such trees, and so are those of the database file with
-- no log
pub record AreInAlone (P : Trees → Type 0) (image : Image) : Type 0 where
  pub both : ∥ AreTreesIn P image ∥₁
  pub alone : ∥ AreTreesIn P (record image { log = [] }) ∥₁

module _ {D : Type 0} (d : disk.Ghosts D) where
  -- the database file alone holds such trees, as it reads now and after a stop
  pub record HoldTreesAlone (files : Pair D) (P : Trees → Type 0) : Type 0 where
    pub seen : AreInAlone P (image_of d files)
    pub left : (image : Image) → outcomes d files.log files.db image → AreInAlone P image

  -- it holds the catalogue alone
  abbrev pub HoldsAlone : Pair D → Catalogue → Type 0
  HoldsAlone files M = HoldTreesAlone files (IsLeft M)

-- a stop now leaves such trees of a store that was let go of
abbrev pub StoreLeaves : {D : Type 0} {d : disk.Ghosts D} → FileStore D d → (Trees → Type 0) → Type 0
StoreLeaves {D} {d} store P = IsClean (view store) → (trees : Trees) → recovers store trees → P trees

-- Why the log of a desk wasn't copied: its store had failed in an earlier call; or it failed now, for the cause that its error names.
abbrev pub IsUncopied : {D : Type 0} {d : disk.Ghosts D} → DeskState (FileStore D d) → FileStore D d → Fault → Type 0
IsUncopied {D} {d} desk store fault =
    ((is_closed desk.last ≡ true) × (fault ≡ Disk)) ⊎ ((error : Error) × (fault ≡ fault_of error) × FailsToClose desk.conn store error)
