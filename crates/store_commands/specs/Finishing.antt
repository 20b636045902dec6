-- The rest of a command whose edition was filed.
use Rattle.std.specs.Prelude.{◌≡◌, ◌≤◌, ℕ, List, true, false, IsTrue, IfErr, OnOk, OnErr, Result}
use Rattle.sqlite.specs.Effect.{Database}
use Rattle.sqlite.specs.State.{State, HasCleanDisk, IsUnchanged, Survives}
use Rattle.sqlite.specs.Held.{Held, state}
use Rattle.sqlite_trees.specs.declared.store.Store.{Ghosts}
use Rattle.dict_index.specs.Edition.{Edition, ReadEdition, edition_of}
use Rattle.dict_text.specs.Names.{is_request_id}
use Rattle.dict_catalogue.specs.Commands.{Command, install}
use Rattle.dict_catalogue.specs.Tests.{Holdings}
use Rattle.dict_catalogue.specs.Steps.{Catalogue, summary_of, step}
use Rattle.dict_desk.specs.Faults.{is_failure}
use Rattle.dict_desk.specs.declared.fault.Fault.{Fault}
use Rattle.store_rows.specs.Versions.{known}
use Rattle.store_rows.specs.After.{TableChange}
use Rattle.store_holdings.specs.AllTables.{AllTables, all_after}
use Rattle.store_holdings.specs.Holds.{Rests, IsLeftAs}
use Rattle.store_holdings.specs.Writing.{FailsToEnd}
use Rattle.store_commands.specs.KeptRecords.{HasRecords, SparesTablesOfOthers, KeepsTextRows}
use Rattle.store_commands.specs.Changes.{IsInRange, finished}
use Rattle.store_commands.specs.Statements.{finishing}
use Rattle.store_holdings.specs.Committed.{IsTreesOf}
use Rattle.store_commands.specs.Answers.{Answers, HoldsBy, has_written, summary_after, numbers_after, IsOfApply, IsOfShut, IsPlanned, HoldsAfter}
use Rattle.store_commands.specs.declared.applied.Applied.{Applied}
use Rattle.store_commands.specs.Installs.{install_read}
use Rattle.store_commands.specs.Installed.{HasInstalled}

-- Whatever records the database keeps, the rest of the change makes of them what the whole makes, and nothing else.
abbrev pub AwaitsRest : TableChange → Database → Type 0
AwaitsRest change db = (all : AllTables) → HasRecords db all → (after : Database) → HasRecords after (finished change all) → HasRecords after (all_after known change all)

-- What a command under a lawful id does to a store that shows what is committed: over each catalogue with this summary, what `Answers` says.
-- What is committed alone tells which tables and numbers stay.
pub record IsAppliedOver (summary : Holdings (List ℕ)) (id : List ℕ) (command : Command Edition) (old new : State) (result : Result Applied Fault) : Type 0 where
  pub value : HasCleanDisk new → (M : Catalogue) → Rests known old M → summary_of M ≡ summary → Answers new M id (step M id command) result
  pub spares : has_written result ≡ false → Survives old new (λ _. ⊥)
  pub crash : Survives old new (λ trees. IsTrue old.is_open × ((M : Catalogue) → Rests known old M → summary_of M ≡ summary → IsLeftAs known (step M id command).catalogue trees))
  pub beside : Survives old new (λ trees. IsTrue old.is_open × IsTreesOf (SparesTablesOfOthers old.committed) trees)
  pub lives : HasCleanDisk new → IsTrue new.is_open → IsTrue old.is_open
  pub shut : HasCleanDisk new → old.is_open ≡ false → IsOfShut id result
  pub others : HasCleanDisk new → OnOk result (SparesTablesOfOthers old.committed new.committed)
  pub above : HasCleanDisk new → OnOk result (KeepsTextRows summary.installs (numbers_after summary result) old.committed new.committed)
  pub refused : HasCleanDisk new → IfErr result (λ fault. is_failure fault ≡ false → new.committed ≡ old.committed)
  pub grows : summary.installs ≤ (summary_after summary result).installs
  pub kinds : IfErr result IsOfApply
  pub range : IsInRange (summary_after summary result)
  pub holds : HoldsBy (summary_after summary result) new
  pub ended : new.in_transaction ≡ false

module _ {S : Type 0} (g : Ghosts S) where
  -- The rest of a command that was planned isn't made: one of its statements failed behind those before it, or the commit did.
  abbrev pub FailsToFinish : Holdings (List ℕ) → List ℕ → Command Edition → Held S → Held S → Fault → Type 0
  FailsToFinish summary id command old new fault =
      (change : TableChange) × IsPlanned summary (state g old) id command change
      × FailsToEnd g (finishing known change) (HoldsAfter summary (state g old) id command) old new fault

  -- A command whose edition was filed fails: behind a lookup the rest isn't made.
  abbrev pub FailsBehindFiled : Holdings (List ℕ) → List ℕ → Command Edition → Held S → Held S → Fault → Type 0
  FailsBehindFiled summary id command old new fault =
      (mid : Held S) × IsUnchanged (state g old) (state g mid) × Survives (state g old) (state g mid) (λ _. ⊥) × FailsToFinish summary id command mid new fault

  -- The install of what was read, under a name, was answered so, behind what was filed of it.
  pub record IsFinished (summary : Holdings (List ℕ)) (id name : List ℕ) (reading : ReadEdition) (old new : Held S) (result : Result Applied Fault) : Type 0 where
    pub lawful : is_request_id id ≡ true
    pub applied : IsAppliedOver summary id (install name (edition_of reading)) (state g old) (state g new) result
    pub failed : HasCleanDisk (state g new) → IfErr result (λ fault. is_failure fault ≡ true → FailsBehindFiled summary id (install name (edition_of reading)) old new fault)
    pub installed : HasCleanDisk (state g new) → IsTrue (state g new).is_open → HasInstalled (install_read name reading) result (state g new).committed
    pub stays : HasCleanDisk (state g new) → IsTrue (state g new).is_open → OnErr result ((state g new).committed ≡ (state g old).committed)
