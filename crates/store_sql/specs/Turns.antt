-- What is done one after the other.
use Rattle.std.specs.Prelude.{◌≡◌, ◌⊎◌, List, [], ◌∷◌}
use Rattle.sqlite.specs.State.{State, Survives}
use Rattle.sqlite.specs.Held.{Held, state}
use Rattle.sqlite.specs.declared.error.Error.{Error}
use Rattle.sqlite_trees.specs.declared.store.Store.{Ghosts}

-- steps of any kind, of which this relation tells that one has done what it says
module _ {S X : Type 0} (g : Ghosts S) (Does : X → State → State → Type 0) where
  -- Each has done what it says, one after the other, and a stop leaves what it left before.
  abbrev pub DoneInTurn : List X → Held S → Held S → Type 0
  DoneInTurn [] old new = new ≡ old
  DoneInTurn (one ∷ rest) old new = (mid : Held S) × (Does one (state g old) (state g mid) × Survives (state g old) (state g mid) (λ _. ⊥)) × DoneInTurn rest mid new

  -- and this one, that it failed, for the cause that the error names
  module _ (Fails : X → State → State → Error → Type 0) where
    -- One of them failed, where those before it had done what they say.
    abbrev pub FailedInTurn : List X → Held S → Held S → Error → Type 0
    FailedInTurn [] old new e = ⊥
    FailedInTurn (one ∷ rest) old new e =
        (Fails one (state g old) (state g new) e × Survives (state g old) (state g new) (λ _. ⊥))
        ⊎ ((mid : Held S) × (Does one (state g old) (state g mid) × Survives (state g old) (state g mid) (λ _. ⊥)) × FailedInTurn rest mid new e)
