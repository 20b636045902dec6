-- What a command does over a connection, as `store_commands` tells it.
use Rattle.std.proofs.Common.{◌≡◌, inl, inr, ℕ, ◌≤◌, true, false, List, subst, arith}
use Rattle.std.specs.Prelude.{IsTrue, Result, Ok, Err, OnOk, IfErr}
use Rattle.sqlite.specs.Effect.{Database}
use Rattle.sqlite.specs.State.{State, HasCleanDisk, Survives}
use Rattle.sqlite.specs.Held.{Held, state}
use Rattle.sqlite.specs.Tree.{Trees}
use Rattle.sqlite.proofs.StateLemmas.{survives_weaker}
use Rattle.sqlite_trees.specs.declared.store.Store.{Ghosts}
use Rattle.dict_index.specs.Edition.{Edition}
use Rattle.dict_catalogue.specs.Commands.{Command}
use Rattle.dict_catalogue.specs.Tests.{Holdings}
use Rattle.dict_catalogue.specs.Steps.{Catalogue, summary_of, step}
use Rattle.dict_desk.specs.Faults.{is_failure}
use Rattle.dict_desk.specs.declared.fault.Fault.{Fault}
use Rattle.store_rows.specs.Versions.{known}
use Rattle.store_holdings.specs.Holds.{Rests, IsLeftAs}
use Rattle.store_holdings.specs.Committed.{IsTreesOf}
use Rattle.store_commands.specs.KeptRecords.{KeepsTextRows, SparesTablesOfOthers}
use Rattle.store_commands.specs.Changes.{IsInRange}
use Rattle.store_commands.specs.Answers.{HoldsBy, Answers, has_written, numbers_after, summary_after, IsOfApply, IsOfShut, FailsToApply}
use Rattle.store_commands.specs.declared.applied.Applied.{Applied}
use Rattle.store_desk.specs.Applied.{AppliesOver}
use Rattle.store_desk.specs.Causes.{FailsToApplyOver}

-- what a stop may leave is of both kinds
both_left : (a b : State) (P Q : Trees → Type 0) → Survives a b P → Survives a b Q → Survives a b (λ trees. P trees × Q trees)
both_left a b P Q p q = record {
  clean = p.clean;
  shield = p.shield;
  counts = p.counts;
  limit = p.limit;
  closes = p.closes;
  crash = λ clean trees left. elim (p.crash clean trees left) [
    | inl was ↦ inl was
    | inr one ↦ elim (q.crash clean trees left) [ inl was ↦ inl was | inr two ↦ inr (one, two) ]
  ];
}

pub err_weaker : {T : Type 0} (P Q : Fault → Type 0) (result : Result T Fault) → ((fault : Fault) → P fault → Q fault) → IfErr result P → IfErr result Q
err_weaker P Q (Ok value) f h = tt
err_weaker P Q (Err fault) f h = f fault h

pub err_clean : {T A : Type 0} (P : Fault → Type 0) (result : Result T Fault) → (A → IfErr result P) → IfErr result (λ fault. A → P fault)
err_clean P (Ok value) h = tt
err_clean P (Err fault) h = h

module _ {S : Type 0} (g : Ghosts S) (summary : Holdings (List ℕ)) (id : List ℕ) (command : Command Edition) (old new : Held S) (result : Result Applied Fault) where
  abbrev Left : Trees → Type 0
  Left trees = IsTrue (state g old).is_open × ((M : Catalogue) → Rests known (state g old) M → summary_of M ≡ summary → IsLeftAs known (step M id command).catalogue trees)

  module _ (before : HoldsBy summary (state g old)) (crash : Survives (state g old) (state g new) Left) (holds : HoldsBy (summary_after summary result) (state g new))
      (lives : HasCleanDisk (state g new) → IsTrue (state g new).is_open → IsTrue (state g old).is_open) where
    settled_before : HasCleanDisk (state g new) → IsTrue (state g old).is_open → (state g old).now ≡ (state g old).committed
    settled_before clean live = (before (omega (arith, crash.clean, clean)) live).1.settled

    -- what is told of what is seen, of what is committed
    as_committed : (P : Database → Database → Type 0) → HasCleanDisk (state g new) → IsTrue (state g new).is_open → P (state g old).now (state g new).now → P (state g old).committed (state g new).committed
    as_committed P clean live h =
        subst (λ (db : Database). P db (state g new).committed) (settled_before clean (lives clean live)) (subst (λ (db : Database). P (state g old).now db) (holds clean live).1.settled h)

    pub applied_over : (HasCleanDisk (state g new) → (M : Catalogue) → Rests known (state g old) M → summary_of M ≡ summary → Answers (state g new) M id (step M id command) result)
        → (has_written result ≡ false → Survives (state g old) (state g new) (λ _. ⊥))
        → (HasCleanDisk (state g new) → (state g old).is_open ≡ false → IsOfShut id result)
        → (HasCleanDisk (state g new) → IfErr result (λ fault. is_failure fault ≡ true → FailsToApply g summary id command old new fault))
        → (HasCleanDisk (state g new) → OnOk result (KeepsTextRows summary.installs (numbers_after summary result) (state g old).now (state g new).now))
        → (HasCleanDisk (state g new) → IfErr result (λ fault. is_failure fault ≡ false → (state g new).now ≡ (state g old).now))
        → (HasCleanDisk (state g new) → OnOk result (SparesTablesOfOthers (state g old).now (state g new).now)) → Survives (state g old) (state g new) (IsTreesOf (SparesTablesOfOthers (state g old).now))
        → summary.installs ≤ (summary_after summary result).installs → IfErr result IsOfApply → IsInRange (summary_after summary result) → new.in_transaction ≡ false → AppliesOver g false summary id command old new result
    applied_over value spares shut failed above refused others beside grows kinds range ended = record {
      value = value;
      spares = spares;
      crash = crash;
      shut = shut;
      lives = lives;
      failed = λ clean. err_weaker (λ fault. is_failure fault ≡ true → FailsToApply g summary id command old new fault) (λ fault. is_failure fault ≡ true → FailsToApplyOver g false summary id command old new fault) result
          (λ fault h failure. inl (h failure)) (failed clean);
      above = λ clean live. as_committed (λ (a b : Database). OnOk result (KeepsTextRows summary.installs (numbers_after summary result) a b)) clean live (above clean);
      refused = λ clean live. as_committed (λ (a b : Database). IfErr result (λ fault. is_failure fault ≡ false → b ≡ a)) clean live (refused clean);
      others = λ clean live. as_committed (λ (a b : Database). OnOk result (SparesTablesOfOthers a b)) clean live (others clean);
      beside = survives_weaker (state g old) (state g new) (λ trees. Left trees × IsTreesOf (SparesTablesOfOthers (state g old).now) trees)
          (λ trees. IsTrue (state g old).is_open × IsTreesOf (SparesTablesOfOthers (state g old).committed) trees)
          (λ clean trees h. (h.0.0, subst (λ (db : Database). IsTreesOf (SparesTablesOfOthers db) trees) (settled_before clean h.0.0) h.1))
          (both_left (state g old) (state g new) Left (IsTreesOf (SparesTablesOfOthers (state g old).now)) crash beside);
      grows = grows;
      kinds = kinds;
      range = range;
      holds = holds;
      ended = ended;
    }
