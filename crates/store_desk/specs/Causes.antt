-- Why a call of a desk fails, and what a command does to it.
use Rattle.std.specs.Prelude.{◌≡◌, ◌⊎◌, ℕ, Bool, true, false, IsTrue, List, Option, is_some, Result, IfErr}
use Rattle.sqlite.specs.Disk.{MoreFaults}
use Rattle.sqlite.specs.Effect.{Database}
use Rattle.sqlite.specs.State.{State, HasCleanDisk, KeepsCommit, Fails, Survives}
use Rattle.sqlite.specs.Held.{Held, state}
use Rattle.sqlite.specs.declared.error.Error.{Error}
use Rattle.sqlite_trees.specs.declared.store.Store.{Ghosts}
use Rattle.dict_index.specs.Edition.{Edition}
use Rattle.dict_catalogue.specs.Commands.{Command, verb_of}
use Rattle.dict_catalogue.specs.Tests.{Holdings}
use Rattle.dict_catalogue.specs.Steps.{Catalogue, CommandRequest, kept_under, step}
use Rattle.dict_catalogue.specs.WellFormed.{is_install}
use Rattle.dict_catalogue.specs.declared.reply.Kept.{Kept}
use Rattle.dict_desk.specs.Applying.{Applies, Leaves}
use Rattle.dict_desk.specs.Faults.{is_disk, is_failure}
use Rattle.dict_desk.specs.declared.fault.Fault.{Fault}
use Rattle.dict_desk.specs.declared.fault.Fault.TheVariants.{Refused, Memory, Disk, Closed, NotACatalogue, Damaged, NewerSchema}
use Rattle.store_holdings.specs.Faults.{fault_of, FailsToReadCatalogue}
use Rattle.store_commands.specs.Answers.{FailsToApply}
use Rattle.store_holdings.specs.Committed.{IsTreesOf}
use Rattle.store_commands.specs.KeptRecords.{SparesTablesOfOthers}
use Rattle.store_commands.specs.Finishing.{FailsBehindFiled}
use Rattle.store_desk.specs.Desk.{DeskState, KeepsBeside, Shows, LeavesOneOf, is_closed}

-- The store failed between these two states, by an error that is no want of memory, for the cause that it names: its disk
-- failed once more, or it was shut before. It shows what was committed.
abbrev pub StoreFails : State → State → Type 0
StoreFails old new = (e : Error) × (Disk ≡ fault_of e) × Fails old new ⊥ e

module _ {S : Type 0} (g : Ghosts S) where
  -- A call that changes no catalogue failed: memory was refused, to it, before it asked the store or in its asking, or to the store; the store
  -- failed between just these two states of the connection; or the desk was closed, and is as it was.
  abbrev pub GivesWay : DeskState S → DeskState S → Fault → Type 0
  GivesWay old new (Refused refusal) = ⊥
  GivesWay old new Memory = (new.conn ≡ old.conn) ⊎ FailsToReadCatalogue (state g old.conn) (state g new.conn) Memory
  GivesWay old new Disk = StoreFails (state g old.conn) (state g new.conn)
  GivesWay old new Closed = (is_closed old.last ≡ true) × (new ≡ old)
  GivesWay old new NotACatalogue = ⊥
  GivesWay old new Damaged = ⊥
  GivesWay old new NewerSchema = ⊥

  -- A call that prepares failed: memory was refused, or the disk failed once more, and nothing was committed; or the desk was closed,
  -- and is as it was.
  abbrev pub FailsToPrepare : DeskState S → DeskState S → Fault → Type 0
  FailsToPrepare old new (Refused refusal) = ⊥
  FailsToPrepare old new Memory = KeepsCommit (state g old.conn) (state g new.conn)
  FailsToPrepare old new Disk = KeepsCommit (state g old.conn) (state g new.conn) × MoreFaults (state g old.conn).faults (state g new.conn).faults
  FailsToPrepare old new Closed = (is_closed old.last ≡ true) × (new ≡ old)
  FailsToPrepare old new NotACatalogue = ⊥
  FailsToPrepare old new Damaged = ⊥
  FailsToPrepare old new NewerSchema = ⊥

  -- A command fails over a connection: its reply was not looked up, or its change was not made; or, where parts of an edition are filed (`filed`), the
  -- rest of the change was not made.
  abbrev pub FailsToApplyOver : Bool → Holdings (List ℕ) → List ℕ → Command Edition → Held S → Held S → Fault → Type 0
  FailsToApplyOver filed summary id command old new fault =
      FailsToApply g summary id command old new fault ⊎ ((filed ≡ true) × FailsBehindFiled g summary id command old new fault)

  -- A command that is not refused failed so; or it installs an edition, and memory was refused to the index of this, before the store was
  -- asked; or the desk was closed, and is as it was.
  abbrev pub FailsToApplyTo : DeskState S → CommandRequest → DeskState S → Fault → Type 0
  FailsToApplyTo old request new (Refused refusal) = ⊥
  FailsToApplyTo old request new Memory = ((is_install (verb_of request.command) ≡ true) × (new.conn ≡ old.conn)) ⊎ FailsToApplyOver old.counts.filed old.summary request.id request.command old.conn new.conn Memory
  FailsToApplyTo old request new Disk = FailsToApplyOver old.counts.filed old.summary request.id request.command old.conn new.conn Disk
  FailsToApplyTo old request new Closed = (is_closed old.last ≡ true) × (new ≡ old)
  FailsToApplyTo old request new NotACatalogue = ⊥
  FailsToApplyTo old request new Damaged = ⊥
  FailsToApplyTo old request new NewerSchema = ⊥

  -- One command was applied to a desk, and answered so: over whichever catalogue was shown, what is answered, what is shown and
  -- what a stop may leave are those of its step; a failure has its cause; and the tables of others are as they were, whatever a stop leaves,
  -- and as those of any database of which it had kept them.
  pub record IsAppliedTo (old : DeskState S) (request : CommandRequest) (result : Result Kept Fault) (new : DeskState S) : Type 0 where
    pub answered : HasCleanDisk (state g new.conn) → (M : Catalogue) → Shows g old M → Applies (Shows g new) M (step M request.id request.command) result
    pub left : HasCleanDisk (state g new.conn) → (M : Catalogue) → Shows g old M
        → Leaves (LeavesOneOf g old) (LeavesOneOf g new) (is_some (kept_under M.kept request.id)) (step M request.id request.command).catalogue result
    pub spared : (ms : List (Option Catalogue)) → LeavesOneOf g old ms → IfErr result (λ fault. is_disk fault ≡ false → LeavesOneOf g new ms)
    pub failed : HasCleanDisk (state g new.conn) → IfErr result (λ fault. is_failure fault ≡ true → FailsToApplyTo old request new fault)
    pub others : HasCleanDisk (state g new.conn) → IsTrue (state g new.conn).is_open → SparesTablesOfOthers (state g old.conn).committed (state g new.conn).committed
    pub beside : Survives (state g old.conn) (state g new.conn) (λ trees. IsTrue (state g old.conn).is_open × IsTreesOf (SparesTablesOfOthers (state g old.conn).committed) trees)
    pub keeps : (db : Database) → KeepsBeside g old db → KeepsBeside g new db
