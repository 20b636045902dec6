-- What a reading tells of what is committed.
use Rattle.std.proofs.Common.{◌≡◌, inl, inr, true, false, sym, subst, ◌∙◌, arith}
use Rattle.std.specs.Prelude.{IsTrue, IsSome}
use Rattle.std.proofs.lemmas.Bool.{false≢true}
use Rattle.sqlite.specs.Effect.{Database}
use Rattle.sqlite.specs.State.{State, HasCause, IsUnchanged, Survives, store_error}
use Rattle.sqlite.specs.declared.error.Error.{Error}
use Rattle.sqlite_trees.specs.declared.error.StoreError.{StoreError}
use Rattle.sqlite_trees.specs.declared.error.StoreError.TheVariants as store
use Rattle.dict_catalogue.specs.Steps.{Catalogue}
use Rattle.dict_desk.specs.declared.fault.Fault.{Fault}
use Rattle.dict_desk.specs.declared.fault.Fault.TheVariants.{Refused, Memory, Disk, Closed, NotACatalogue, Damaged, NewerSchema}
use Rattle.store_rows.specs.Versions.{known}
use Rattle.store_holdings.specs.Faults.{fault_of, FailsToReadCatalogue, IsUnreadCatalogue}
use Rattle.store_holdings.specs.Holds.{Rests}
use Rattle.store_commands.specs.Committed.{IsOfStore, StaysCommitted}
use Rattle.store_commands.proofs.ApplyLemmas.{holds_now}
use Rattle.store_opening.specs.Reading.{HasFailedToRead, IsVast}
use Rattle.store_desk.specs.Opened.{TellsOfDatabase, IsNotHeld}

-- a fault of the store tells nothing of what a database holds
pub store_told : (db : Database) (fault : Fault) → IsOfStore fault → TellsOfDatabase db fault × IsNotHeld db fault
store_told db (Refused refusal) kind = absurd kind
store_told db Memory kind = (
  record { none = λ is. absurd (let no : Memory ≡ NotACatalogue = is in cc); newer = λ is. absurd (let no : Memory ≡ NewerSchema = is in cc); damaged = λ is. absurd (let no : Memory ≡ Damaged = is in cc) },
  record { none = λ is. absurd (let no : Memory ≡ NotACatalogue = is in cc); newer = λ is. absurd (let no : Memory ≡ NewerSchema = is in cc); damaged = λ is. absurd (let no : Memory ≡ Damaged = is in cc) },
)
store_told db Disk kind = (
  record { none = λ is. absurd (let no : Disk ≡ NotACatalogue = is in cc); newer = λ is. absurd (let no : Disk ≡ NewerSchema = is in cc); damaged = λ is. absurd (let no : Disk ≡ Damaged = is in cc) },
  record { none = λ is. absurd (let no : Disk ≡ NotACatalogue = is in cc); newer = λ is. absurd (let no : Disk ≡ NewerSchema = is in cc); damaged = λ is. absurd (let no : Disk ≡ Damaged = is in cc) },
)
store_told db Closed kind = absurd kind
store_told db NotACatalogue kind = absurd kind
store_told db Damaged kind = absurd kind
store_told db NewerSchema kind = absurd kind

-- the store failed for the cause that its error names
failed_by : (old new : State) (e : Error) (cause : StoreError) → Disk ≡ fault_of e → e ≡ store_error cause → HasCause old new ⊥ cause → HasFailedToRead old new
failed_by old new e store.OutOfMemory told is h = absurd (let no : Disk ≡ Memory = subst (λ (x : Error). Disk ≡ fault_of x) is told in cc)
failed_by old new e store.Io told is h = inl h
failed_by old new e store.Corrupt told is h = inl h
failed_by old new e store.Full told is h = inl h
failed_by old new e store.Broken told is h = inr (inl h)
failed_by old new e store.Unstorable told is h = absurd h

pub reply_failed : (old new : State) (fault : Fault) → (IsTrue old.is_open → (M : Catalogue) × Rests known old M) → FailsToReadCatalogue old new fault → fault ≡ Disk → HasFailedToRead old new
reply_failed old new fault holds (inl h) is = by_fault (subst (λ (f : Fault). IsUnchanged old new × IsUnreadCatalogue old f) is h)
  where
    by_fault : IsUnchanged old new × IsUnreadCatalogue old Disk → HasFailedToRead old new
    by_fault both = elim both.1 as (λ _. HasFailedToRead old new) [
      | inl limited ↦ inr (inr (inl limited))
      | inr none ↦ let it = holds both.0.0.was_open in absurd (none it.0 (holds_now old it.0 it.1))
    ]
reply_failed old new fault holds (inr h) is = failed_by old new h.0 h.2.0 (sym is ∙ h.1) h.2.1 h.2.2

-- a reading behind one that changed nothing
module _ (old mid new : State) (same : IsUnchanged old mid) where
  module _ (settled : old.now ≡ old.committed) (fault : Fault) where
    pub told_still : TellsOfDatabase mid.now fault → TellsOfDatabase old.committed fault
    told_still told = subst (λ (d : Database). TellsOfDatabase d fault) (same.0.now_is ∙ settled) told

    pub not_held_still : IsNotHeld mid.now fault → IsNotHeld old.committed fault
    not_held_still told = subst (λ (d : Database). IsNotHeld d fault) (same.0.now_is ∙ settled) told

  pub failed_still : Survives old mid (λ _. ⊥) → HasFailedToRead mid new → HasFailedToRead old new
  failed_still survives (inl more) = inl (let counts = survives.counts in omega (arith, more, counts))
  failed_still survives (inr (inl shut)) = absurd (false≢true (sym shut ∙ same.0.is_open))
  failed_still survives (inr (inr (inl limited))) = inr (inr (inl (subst IsSome survives.limit limited)))
  failed_still survives (inr (inr (inr vast))) = inr (inr (inr (subst IsVast same.0.now_is vast)))

  pub stays_then : (IsTrue new.is_open → new.now ≡ mid.now) → (IsTrue new.is_open → new.committed ≡ mid.committed) → StaysCommitted old new
  stays_then now committed = record {
    was_open = λ live. same.0.was_open;
    committed = λ live. committed live ∙ same.0.committed_is;
    settled = λ live was. now live ∙ same.0.now_is ∙ was ∙ sym same.0.committed_is ∙ sym (committed live);
  }
