-- What a command does over a connection.
use Rattle.std.specs.Prelude.{◌≡◌, ◌≤◌, ℕ, Bool, false, true, IsTrue, List, Result, OnOk, IfErr}
use Rattle.sqlite.specs.Held.{Held, state}
use Rattle.sqlite.specs.State.{HasCleanDisk, Survives}
use Rattle.sqlite_trees.specs.declared.store.Store.{Ghosts}
use Rattle.dict_index.specs.Edition.{Edition}
use Rattle.dict_catalogue.specs.Commands.{Command}
use Rattle.dict_catalogue.specs.Tests.{Holdings}
use Rattle.dict_catalogue.specs.Steps.{Catalogue, summary_of, step}
use Rattle.dict_desk.specs.Faults.{is_failure}
use Rattle.dict_desk.specs.declared.fault.Fault.{Fault}
use Rattle.store_rows.specs.Versions.{known}
use Rattle.store_holdings.specs.Holds.{Rests, IsLeftAs}
use Rattle.store_holdings.specs.Committed.{IsTreesOf}
use Rattle.store_commands.specs.KeptRecords.{KeepsTextRows, SparesTablesOfOthers}
use Rattle.store_commands.specs.Changes.{IsInRange}
use Rattle.store_commands.specs.Answers.{HoldsBy, Answers, has_written, numbers_after, summary_after, IsOfApply, IsOfShut}
use Rattle.store_commands.specs.declared.applied.Applied.{Applied}
use Rattle.store_desk.specs.Causes.{FailsToApplyOver}

module _ {S : Type 0} (g : Ghosts S) where
  -- A command under an id was answered so between these two states of a connection, as `store_commands` says of a command; parts of an edition
  -- may be filed for it (`filed`).
  pub record AppliesOver (filed : Bool) (summary : Holdings (List ℕ)) (id : List ℕ) (command : Command Edition) (old new : Held S) (result : Result Applied Fault) : Type 0 where
    pub value : HasCleanDisk (state g new) → (M : Catalogue) → Rests known (state g old) M → summary_of M ≡ summary → Answers (state g new) M id (step M id command) result
    pub spares : has_written result ≡ false → Survives (state g old) (state g new) (λ _. ⊥)
    pub crash : Survives (state g old) (state g new) (λ trees. IsTrue (state g old).is_open × ((M : Catalogue) → Rests known (state g old) M → summary_of M ≡ summary → IsLeftAs known (step M id command).catalogue trees))
    pub shut : HasCleanDisk (state g new) → (state g old).is_open ≡ false → IsOfShut id result
    pub lives : HasCleanDisk (state g new) → IsTrue (state g new).is_open → IsTrue (state g old).is_open
    pub failed : HasCleanDisk (state g new) → IfErr result (λ fault. is_failure fault ≡ true → FailsToApplyOver g filed summary id command old new fault)
    pub above : HasCleanDisk (state g new) → IsTrue (state g new).is_open → OnOk result (KeepsTextRows summary.installs (numbers_after summary result) (state g old).committed (state g new).committed)
    pub refused : HasCleanDisk (state g new) → IsTrue (state g new).is_open → IfErr result (λ fault. is_failure fault ≡ false → (state g new).committed ≡ (state g old).committed)
    pub others : HasCleanDisk (state g new) → IsTrue (state g new).is_open → OnOk result (SparesTablesOfOthers (state g old).committed (state g new).committed)
    pub beside : Survives (state g old) (state g new) (λ trees. IsTrue (state g old).is_open × IsTreesOf (SparesTablesOfOthers (state g old).committed) trees)
    pub grows : summary.installs ≤ (summary_after summary result).installs
    pub kinds : IfErr result IsOfApply
    pub range : IsInRange (summary_after summary result)
    pub holds : HoldsBy (summary_after summary result) (state g new)
    pub ended : new.in_transaction ≡ false
