-- Why a call of a desk failed.
use Rattle.std.proofs.Common.{◌≡◌, ◌⊎◌, inl, inr, ℕ, Bool, true, false, List, sym, ap, subst, ◌∙◌, arith}
use Rattle.std.specs.Prelude.{Option, None, IsSome, is_some, Result, Ok, Err, IfErr}
use Rattle.std.proofs.lemmas.Bool.{false≢true}
use Rattle.sqlite.specs.State.{HasCleanDisk, IsUnchanged, Fails, Survives}
use Rattle.sqlite.specs.declared.error.Error.{Error}
use Rattle.sqlite.specs.Held.{Held, state}
use Rattle.sqlite_trees.specs.declared.store.Store.{Ghosts}
use Rattle.dict_index.specs.Edition.{Edition}
use Rattle.dict_catalogue.specs.Commands.{Command}
use Rattle.dict_catalogue.specs.Steps.{Catalogue}
use Rattle.dict_catalogue.specs.Tests.{Holdings}
use Rattle.dict_catalogue.specs.declared.reply.Kept.{Kept}
use Rattle.dict_desk.specs.Faults.{is_failure}
use Rattle.dict_desk.specs.declared.fault.Fault.{Fault}
use Rattle.dict_desk.specs.declared.fault.Fault.TheVariants.{Refused, Memory, Disk, Closed, NotACatalogue, Damaged, NewerSchema}
use Rattle.store_rows.specs.Versions.{known}
use Rattle.store_holdings.specs.Faults.{fault_of, IsUnreadCatalogue, FailsToReadCatalogue}
use Rattle.store_holdings.specs.Holds.{Holds}
use Rattle.store_holdings.specs.Searches as search
use Rattle.store_holdings.specs.Searches.{IsOfStore, ReadsStore}
use Rattle.store_holdings.specs.CutTexts.{IsAtMostRead, FailsToFind}
use Rattle.store_holdings.proofs.HeldLemmas.{held_readable}
use Rattle.store_commands.specs.Answers.{IsOfApply}
use Rattle.store_commands.proofs.ApplyLemmas.{holds_now}
use Rattle.store_commands.specs.declared.applied.Applied.{Applied}
use Rattle.store_commands.specs.declared.applied.Applied.TheVariants.{Repeated, Done}
use Rattle.store_desk.specs.Desk.{DeskState, IsAtRest, is_closed, reply_of}
use Rattle.store_desk.specs.Causes.{GivesWay, FailsToApplyOver, FailsToApplyTo}
use Rattle.store_desk.specs.declared.last.LastCall.{LastCall}
use Rattle.store_desk.specs.Left.{ComingState}

no_limit : (limit : Option ℕ) → limit ≡ None → IsSome limit → ⊥
no_limit limit is some = false≢true (sym (ap is_some is) ∙ some)

-- a lookup, or a reading of a kept reply
module _ {S : Type 0} (g : Ghosts S) (first last : DeskState S) (old : Held S) (from : old ≡ first.conn) (summary : Holdings (List ℕ)) (filing : Option ComingState) (before : LastCall) (open_before : is_closed before ≡ false)
    (rest : IsAtRest g before summary filing old) (survives : Survives (state g old) (state g last.conn) (λ _. ⊥)) where
  -- what an open desk shows is a catalogue's, and it has no limit on steps
  read_holds : HasCleanDisk (state g last.conn) → IsUnchanged (state g old) (state g last.conn) → (M : Catalogue) × Holds known (state g old).now M
  read_holds clean same = let it = rest.holds open_before (omega (arith, survives.clean)) same.0.was_open in (it.0, holds_now (state g old) it.0 it.1)

  reply_read : HasCleanDisk (state g last.conn) → IsUnchanged (state g old) (state g last.conn) → IsUnreadCatalogue (state g old) Disk → ⊥
  reply_read clean same (inl limited) = no_limit old.step_limit rest.limit limited
  reply_read clean same (inr none) = let it = read_holds clean same in none it.0 it.1

  rows_read : (number : ℕ) → HasCleanDisk (state g last.conn) → IsUnchanged (state g old) (state g last.conn) → search.IsUnreadEdition (search.number_in_column number) (state g old) Disk → ⊥
  rows_read number clean same (inl limited) = no_limit old.step_limit rest.limit limited
  rows_read number clean same (inr unreadable) = let it = read_holds clean same in unreadable (held_readable (state g old).now it.0 (search.number_in_column number) it.1)

  abbrev Gives : Held S → Fault → Type 0
  Gives h = GivesWay g (record first { conn = h }) last

  -- why it isn't read, where its store doesn't fail
  fails_for : (Why : Fault → Type 0) → (IsUnchanged (state g old) (state g last.conn) → Why Disk → ⊥) → (fault : Fault) → IsOfStore fault
      → (IsUnchanged (state g old) (state g last.conn) × Why fault) ⊎ ((e : Error) × (fault ≡ fault_of e) × Fails (state g old) (state g last.conn) ⊥ e) → Gives old fault
  fails_for Why never (Refused refusal) kind h = absurd kind
  fails_for Why never Memory kind (inl h) = inr (inl (h.0, tt))
  fails_for Why never Memory kind (inr h) = inr (inr h)
  fails_for Why never Disk kind (inl h) = absurd (never h.0 h.1)
  fails_for Why never Disk kind (inr h) = h
  fails_for Why never Closed kind h = absurd kind
  fails_for Why never NotACatalogue kind h = absurd kind
  fails_for Why never Damaged kind h = absurd kind
  fails_for Why never NewerSchema kind h = absurd kind

  given : (fault : Fault) → Gives old fault → GivesWay g first last fault
  given fault h = subst (λ (c : Held S). Gives c fault) from h

  -- a lookup that reads from the store at most
  found_for : (number : ℕ) → HasCleanDisk (state g last.conn) → (fault : Fault) → IsOfStore fault → FailsToFind g number old last.conn fault → Gives old fault
  found_for number clean fault kind (inl h) = subst (Gives old) (sym h.0) (inl h.1)
  found_for number clean fault kind (inr h) = fails_for (search.IsUnreadEdition (search.number_in_column number) (state g old)) (rows_read number clean) fault kind h

  pub found_gives_way : {T : Type 0} (number : ℕ) (result : Result T Fault) → ReadsStore g (IsAtMostRead g) (FailsToFind g number) old last.conn result → HasCleanDisk (state g last.conn) → IfErr result (GivesWay g first last)
  found_gives_way number (Ok value) reads clean = tt
  found_gives_way number (Err fault) reads clean = given fault (found_for number clean fault reads.kinds (reads.failed clean))

  pub reply_gives_way : {T : Type 0} (result : Result T Fault) → IfErr result IsOfStore → (HasCleanDisk (state g last.conn) → IfErr result (FailsToReadCatalogue (state g old) (state g last.conn)))
      → HasCleanDisk (state g last.conn) → IfErr result (GivesWay g first last)
  reply_gives_way (Ok value) kind failed clean = tt
  reply_gives_way (Err fault) kind failed clean = given fault (fails_for (IsUnreadCatalogue (state g old)) (reply_read clean) fault kind (failed clean))

-- a command; where parts of an edition are filed for it, the desk says so
module _ {S : Type 0} (g : Ghosts S) (old : DeskState S) (id : List ℕ) (command : Command Edition) (new : DeskState S) (filed : Bool) (told_filed : filed ≡ true → old.counts.filed ≡ true) where
  as_told : (fault : Fault) → FailsToApplyOver g filed old.summary id command old.conn new.conn fault → FailsToApplyOver g old.counts.filed old.summary id command old.conn new.conn fault
  as_told fault (inl h) = inl h
  as_told fault (inr h) = inr (told_filed h.0, h.1)

  fails_as : (fault : Fault) → IsOfApply fault → (is_failure fault ≡ true → FailsToApplyOver g filed old.summary id command old.conn new.conn fault) → is_failure fault ≡ true
      → FailsToApplyTo g old (record { id = id; command = command }) new fault
  fails_as (Refused refusal) kind h failure = absurd (false≢true failure)
  fails_as Memory kind h failure = inr (as_told Memory (h failure))
  fails_as Disk kind h failure = as_told Disk (h failure)
  fails_as Closed kind h failure = absurd kind
  fails_as NotACatalogue kind h failure = absurd kind
  fails_as Damaged kind h failure = absurd kind
  fails_as NewerSchema kind h failure = absurd kind

  fails_by : (result : Result Applied Fault) → IfErr result IsOfApply → IfErr result (λ fault. is_failure fault ≡ true → FailsToApplyOver g filed old.summary id command old.conn new.conn fault)
      → IfErr (reply_of result) (λ fault. is_failure fault ≡ true → FailsToApplyTo g old (record { id = id; command = command }) new fault)
  fails_by (Ok (Repeated kept)) kind h = tt
  fails_by (Ok (Done kept summary)) kind h = tt
  fails_by (Err fault) kind h = fails_as fault kind h

  pub fails_to_apply : (first : DeskState S) → old ≡ first → (result : Result Applied Fault) (told : Result Kept Fault) → told ≡ reply_of result → IfErr result IsOfApply
      → IfErr result (λ fault. is_failure fault ≡ true → FailsToApplyOver g filed old.summary id command old.conn new.conn fault)
      → IfErr told (λ fault. is_failure fault ≡ true → FailsToApplyTo g first (record { id = id; command = command }) new fault)
  fails_to_apply first from result told is kind h =
      subst (λ (desk : DeskState S). IfErr told (λ fault. is_failure fault ≡ true → FailsToApplyTo g desk (record { id = id; command = command }) new fault)) from
      (subst (λ (r : Result Kept Fault). IfErr r (λ fault. is_failure fault ≡ true → FailsToApplyTo g old (record { id = id; command = command }) new fault)) (sym is) (fails_by result kind h))

-- a lookup that asks no store
pub memory_gives_way : {S T : Type 0} (g : Ghosts S) (old new : DeskState S) → new.conn ≡ old.conn → (result : Result T Fault) → IfErr result (λ fault. fault ≡ Memory) → IfErr result (GivesWay g old new)
memory_gives_way g old new same (Ok value) h = tt
memory_gives_way g old new same (Err fault) h = subst (GivesWay g old new) (sym h) (inl same)
