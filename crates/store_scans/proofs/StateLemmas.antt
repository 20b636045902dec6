-- What calls that only read leave, one after another.
use Rattle.std.proofs.Common.{◌≡◌, ◌≤◌, IsTrue, inl, inr, sym, subst, ◌∙◌, arith, refl}
use Rattle.sqlite_trees.specs.View.{doubt}
use Rattle.sqlite.specs.State.{State, HasCleanDisk, Survives, IsUnchanged}
use Rattle.sqlite.proofs.StateLemmas.{survives_then}
use Rattle.sqlite.specs.declared.error.Error.{Error}
use Rattle.sqlite.specs.Effect.{Database}
use Rattle.store_tables.specs.Effects.{WhileOpen, FailsToRead}
use Rattle.store_scans.specs.Reading.{Same, StaysUnlessShut, OnlyReads}

pub same_as : (old new : State) → IsUnchanged old new → Same old new
same_as old new h = record { now = h.0.now_is; committed = h.0.committed_is; is_open = h.0.is_open ∙ sym h.0.was_open }

pub same_itself : (s : State) → Same s s
same_itself s = record { now = refl; committed = refl; is_open = refl }

pub same_then : (old mid new : State) → Same old mid → Same mid new → Same old new
same_then old mid new h k = record { now = k.now ∙ h.now; committed = k.committed ∙ h.committed; is_open = k.is_open ∙ h.is_open }

pub same_stays : (old new : State) → Same old new → StaysUnlessShut old new
same_stays old new h = record { was_open = (λ o. sym h.is_open ∙ o); now = (λ _ _. h.now); committed = (λ _ _. h.committed) }

pub stays_then : (old mid new : State) → StaysUnlessShut old mid → StaysUnlessShut mid new → StaysUnlessShut old new
stays_then old mid new h k = record {
  was_open = (λ o. h.was_open (k.was_open o));
  now = (λ o s. k.now o (settled o s) ∙ h.now (k.was_open o) s);
  committed = (λ o s. k.committed o (settled o s) ∙ h.committed (k.was_open o) s);
}
  where
    settled : IsTrue new.is_open → old.now ≡ old.committed → mid.now ≡ mid.committed
    settled o s = h.now (k.was_open o) s ∙ s ∙ sym (h.committed (k.was_open o) s)

pub failed_stays : (old new : State) (e : Error) → FailsToRead old new e → StaysUnlessShut old new
failed_stays old new e (inl h) = record {
  was_open = h.3.was_open;
  now = (λ o s. (h.3.undone o).0 ∙ sym s);
  committed = (λ o s. (h.3.undone o).1);
}
failed_stays old new e (inr h) = same_stays old new (same_as old new h.2)

pub clean_before : (old mid new : State) → Survives mid new (λ _. ⊥) → HasCleanDisk new → HasCleanDisk mid
clean_before old mid new s clean = omega (arith, s.clean)

pub reads_then : (old mid new : State) → OnlyReads old mid → OnlyReads mid new → OnlyReads old new
reads_then old mid new h k = record {
  mode = (λ m. k.mode (h.mode m));
  survives = survives_then old mid new (λ _. ⊥) (λ _. ⊥) (λ _. ⊥) (λ _ db none. none) (λ _ db none. none) h.survives k.survives;
  stays = (λ clean. stays_then old mid new (h.stays (clean_before old mid new k.survives clean)) (k.stays clean));
}

pub survives_itself : (s : State) → Survives s s (λ _. ⊥)
survives_itself s = record {
  clean = (let le : doubt s.is_clean ≤ doubt s.is_clean = omega arith in le);
  shield = (λ h. h);
  counts = (let le : s.faults ≤ s.faults = omega arith in le);
  limit = refl;
  closes = (λ clean o. inl o);
  crash = (λ clean db h. inl h);
}

-- what is asked of an open connection is so still
pub while_same : (P : Database → Type 0) (old new : State) → Survives old new (λ _. ⊥) → (HasCleanDisk new → Same old new) → WhileOpen old P → WhileOpen new P
while_same P old new s same h clean o =
    let early : HasCleanDisk old = omega (arith, s.clean) in
    let it = same clean in
    subst P (sym it.now) (h early (sym it.is_open ∙ o))
