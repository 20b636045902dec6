-- A desk over one database: what it is seen as, which catalogue it shows, and what a stop may leave of it.
use Rattle.std.specs.Prelude.{◌≡◌, ℕ, Bool, true, false, IsTrue, List, Option, None, Some, Contains, Result, Ok, Err, if◌then◌else◌}
use Rattle.std.specs.List.{AllByRecursion}
use Rattle.sqlite.specs.Effect.{Database}
use Rattle.sqlite.specs.Tree.{Trees}
use Rattle.sqlite.specs.State.{State, HasCleanDisk}
use Rattle.sqlite.specs.Held.{Held, state}
use Rattle.sqlite_trees.specs.declared.store.Store.{Ghosts}
use Rattle.dict_index.specs.Edition.{Edition}
use Rattle.dict_catalogue.specs.Items.{Stored, editions_of}
use Rattle.dict_catalogue.specs.Tests.{Holdings}
use Rattle.dict_catalogue.specs.Steps.{Catalogue, summary_of}
use Rattle.dict_catalogue.specs.WellFormed.{IsWellFormed}
use Rattle.dict_desk.specs.Faults.{is_disk, is_failure}
use Rattle.dict_desk.specs.declared.fault.Fault.{Fault}
use Rattle.store_holdings.specs.Committed.{IsTreesOf}
use Rattle.store_holdings.specs.Holds.{Holds}
use Rattle.store_holdings.specs.Indexes.{entries_under}
use Rattle.store_holdings.specs.HeldTexts.{HoldsText}
use Rattle.store_holdings.specs.CutTexts.{Cuts, ArePartsOf}
use Rattle.store_holdings.specs.KeptTexts.{PartNumbers}
pub use Rattle.store_migration.specs.Leaves.{StandsFor}
use Rattle.store_migration.specs.Spared.{SparesOthers}
use Rattle.store_search.specs.Entries.{Indexed}
use Rattle.store_commands.specs.Changes.{IsInRange}
use Rattle.store_commands.specs.Answers.{HoldsBy}
use Rattle.store_commands.specs.Filing.{IsDrawnUp, IsFiledSoFar}
use Rattle.store_desk.specs.Left.{ComingState, Counts}
use Rattle.store_commands.specs.declared.applied.Applied.{Applied}
use Rattle.store_commands.specs.declared.applied.Applied.TheVariants.{Repeated, Done}
use Rattle.dict_catalogue.specs.declared.reply.Kept.{Kept}
use Rattle.store_desk.specs.declared.last.LastCall.{LastCall}
use Rattle.store_desk.specs.declared.last.LastCall.TheVariants.{Fine, Failed, Closed}
use Rattle.store_rows.specs.Versions.{known}

-- the connection, the summary in memory, and how the last call by `&mut` ended; the indexes of editions by their numbers, and the parts
-- of texts that are kept; and what is counted
pub record DeskState (S : Type 0) : Type 0 where
  pub conn : Held S
  pub summary : Holdings (List ℕ)
  pub last : LastCall
  pub indexes : List (ℕ × List Indexed)
  pub texts : List (PartNumbers × List ℕ)
  pub counts : Counts

abbrev pub is_closed : LastCall → Bool
is_closed Fine = false
is_closed Failed = false
is_closed Closed = true

abbrev pub has_failed : LastCall → Bool
has_failed Fine = false
has_failed Failed = true
has_failed Closed = true

-- how a call of a desk that isn't closed ends
abbrev pub last_by : {T : Type 0} → Result T Fault → LastCall
last_by (Ok value) = Fine
last_by (Err fault) = if is_disk fault then Closed else (if is_failure fault then Failed else Fine)

-- the reply that a command is answered, kept before or now
abbrev pub reply_of : Result Applied Fault → Result Kept Fault
reply_of (Ok (Repeated kept)) = Ok kept
reply_of (Ok (Done kept summary)) = Ok kept
reply_of (Err fault) = Err fault

-- trees of a database from which one of these is opened: a catalogue, or none
abbrev pub IsOneOf : List (Option Catalogue) → Trees → Type 0
IsOneOf ms trees = (m : Option Catalogue) × Contains ms m × StandsFor m trees

-- trees of a database with the tables of others that this one has, as they are there
abbrev pub HasBeside : Database → Trees → Type 0
HasBeside db trees = ∥ IsTreesOf (SparesOthers db) trees ∥₁

-- What is prepared of a change that may come: so many parts of an edition are filed; or nothing is.
abbrev pub HasFiled : Option ComingState → State → Type 0
HasFiled None s = Unit {0}
HasFiled (Some coming) s = IsDrawnUp coming.filing × IsFiledSoFar coming.filing s

module _ {S : Type 0} (g : Ghosts S) where
  -- What is true of every desk between two calls: its connection has no limit on steps, and no transaction is open; the numbers in its
  -- summary are those of installs; and where it isn't closed, and while the store is open and the disk gives what was written, what is seen
  -- is committed, and holds a catalogue of this summary; and of what is prepared of a change that may come, so much is committed beside it.
  pub record IsAtRest (last : LastCall) (summary : Holdings (List ℕ)) (filing : Option ComingState) (h : Held S) : Type 0 where
    pub limit : h.step_limit ≡ None
    pub ended : h.in_transaction ≡ false
    pub range : IsInRange summary
    pub holds : is_closed last ≡ false → HoldsBy summary (state g h)
    pub filed : is_closed last ≡ false → HasFiled filing (state g h)

  -- Lookups in an edition are answered by it: under its number stands an index that cuts its entries out of a text; what is kept under the
  -- number are parts of this text; and while the desk isn't closed and the store is open, this is the one that is committed under it.
  pub record ServesEdition (desk : DeskState S) (stored : Stored Edition) : Type 0 where
    pub index : List Indexed
    pub stands : entries_under stored.number desk.indexes ≡ Some index
    pub text : List ℕ
    pub cuts : Cuts index stored.content text
    pub kept : ArePartsOf stored.number text desk.texts
    pub held : is_closed desk.last ≡ false → IsTrue (state g desk.conn).is_open → HoldsText (state g desk.conn).committed stored.number text

  -- so it is of each edition of the catalogue, current and former
  abbrev pub ServesEditions : DeskState S → Catalogue → Type 0
  ServesEditions desk M = AllByRecursion (λ item. AllByRecursion (ServesEdition desk) (editions_of item)) M.items

  -- The catalogue is shown: the summary is its, lookups are answered by its editions, and while the desk isn't closed and the store is
  -- open, the database holds it, as it was committed.
  pub record Shows (desk : DeskState S) (M : Catalogue) : Type 0 where
    pub summary : desk.summary ≡ summary_of M
    pub well_formed : IsWellFormed M
    pub holds : is_closed desk.last ≡ false → HasCleanDisk (state g desk.conn) → IsTrue (state g desk.conn).is_open → Holds known (state g desk.conn).committed M
    pub served : HasCleanDisk (state g desk.conn) → ServesEditions desk M

  -- whatever a stop now leaves has the tables of others that this database has, as they are there
  abbrev pub KeepsBeside : DeskState S → Database → Type 0
  KeepsBeside desk db = HasCleanDisk (state g desk.conn) → (trees : Trees) → (state g desk.conn).may_leave trees → HasBeside db trees

  -- whatever a stop now leaves stands for one of these
  abbrev pub LeavesOneOf : DeskState S → List (Option Catalogue) → Type 0
  LeavesOneOf desk ms = HasCleanDisk (state g desk.conn) → (trees : Trees) → (state g desk.conn).may_leave trees → IsOneOf ms trees
