-- Steps that are done one after the other, and one that fails behind them.
use Rattle.std.proofs.Common.{◌≡◌, ◌+◌, ◌++◌, ℕ, zero, suc, List, [], ◌∷◌, take, Some, slice_get, inl, inr, refl, sym, subst}
use Rattle.sqlite.specs.State.{State, Survives}
use Rattle.sqlite.specs.Held.{Held, state}
use Rattle.sqlite.specs.declared.error.Error.{Error}
use Rattle.sqlite_trees.specs.declared.store.Store.{Ghosts}
use Rattle.store_sql.specs.Turns.{DoneInTurn, FailedInTurn}
use Rattle.store_tables.proofs.MakeLemmas.{take_one}

module _ {S X : Type 0} (g : Ghosts S) (Does : X → State → State → Type 0) where
  pub run_one : (one : X) (old new : Held S) → Does one (state g old) (state g new) → Survives (state g old) (state g new) (λ _. ⊥) → DoneInTurn g Does (one ∷ []) old new
  run_one one old new done survives = (new, (done, survives), refl)

  pub run_then : (front back : List X) (old mid new : Held S) → DoneInTurn g Does front old mid → DoneInTurn g Does back mid new → DoneInTurn g Does (front ++ back) old new
  run_then [] back old mid new first second = subst (λ h. DoneInTurn g Does back h new) first second
  run_then (one ∷ rest) back old mid new first second = (first.0, first.1, run_then rest back first.0 mid new first.2 second)

  -- the next of a list
  pub run_next : (xs : List X) (i : ℕ) (x : X) → slice_get xs i ≡ Some x → (old mid new : Held S) → DoneInTurn g Does (take i xs) old mid → Does x (state g mid) (state g new) → Survives (state g mid) (state g new) (λ _. ⊥)
      → DoneInTurn g Does (take (i + 1) xs) old new
  run_next xs i x at old mid new first done survives = subst (λ l. DoneInTurn g Does l old new) (sym (take_one i xs x at)) (run_then (take i xs) (x ∷ []) old mid new first (run_one x mid new done survives))

  module _ (Fails : X → State → State → Error → Type 0) where
    pub fails_one : (one : X) (old new : Held S) (e : Error) → Fails one (state g old) (state g new) e → Survives (state g old) (state g new) (λ _. ⊥) → FailedInTurn g Does Fails (one ∷ []) old new e
    fails_one one old new e failed survives = inl (failed, survives)

    -- more would have come after it
    pub fails_before : (front back : List X) (old new : Held S) (e : Error) → FailedInTurn g Does Fails front old new e → FailedInTurn g Does Fails (front ++ back) old new e
    fails_before [] back old new e h = absurd h
    fails_before (one ∷ rest) back old new e (inl h) = inl h
    fails_before (one ∷ rest) back old new e (inr h) = inr (h.0, h.1, fails_before rest back h.0 new e h.2)

    -- others ran before it
    pub fails_after : (front back : List X) (old mid new : Held S) (e : Error) → DoneInTurn g Does front old mid → FailedInTurn g Does Fails back mid new e → FailedInTurn g Does Fails (front ++ back) old new e
    fails_after [] back old mid new e first h = subst (λ k. FailedInTurn g Does Fails back k new e) first h
    fails_after (one ∷ rest) back old mid new e first h = inr (first.0, first.1, fails_after rest back first.0 mid new e first.2 h)

    -- the next of a list
    pub fails_next : (xs : List X) (i : ℕ) (x : X) → slice_get xs i ≡ Some x → (old mid new : Held S) (e : Error) → DoneInTurn g Does (take i xs) old mid → Fails x (state g mid) (state g new) e
        → Survives (state g mid) (state g new) (λ _. ⊥)
        → FailedInTurn g Does Fails xs old new e
    fails_next [] i x at old mid new e first failed survives = absurd (let same = at in cc)
    fails_next (y ∷ xs) zero x at old mid new e first failed survives =
        let same : x ≡ y = cc in
        subst (λ h. FailedInTurn g Does Fails (y ∷ xs) h new e) first (subst (λ z. FailedInTurn g Does Fails (z ∷ xs) mid new e) same (inl (failed, survives)))
    fails_next (y ∷ xs) (suc i) x at old mid new e first failed survives = inr (first.0, first.1, fails_next xs i x at first.0 mid new e first.2 failed survives)
