-- Texts of statements that were run one after the other.
use Rattle.std.specs.Prelude.{◌≡◌, ◌⊎◌, ℕ, List, [], ◌∷◌, Result, Ok, Err}
use Rattle.std.specs.Borrow.{Bor}
use Rattle.sqlite.specs.Batch.{ExecutesAll}
use Rattle.sqlite.specs.Held.{Held}
use Rattle.sqlite.specs.declared.error.Error.{Error}
use Rattle.sqlite_trees.specs.declared.store.Store.{Ghosts}

module _ {S : Type 0} (g : Ghosts S) where
  -- each text was run whole, in this order, up to the first that fails, and nothing else
  abbrev pub ExecutedInTurn : List (Bor (List ℕ)) → Held S → Held S → Result (Unit {0}) Error → Type 0
  ExecutedInTurn [] old new outcome = (outcome ≡ Ok tt) × (new ≡ old)
  ExecutedInTurn (text ∷ texts) old new outcome =
      ((error : Error) × (outcome ≡ Err error) × ExecutesAll g text.now old new (Err error))
      ⊎ ((between : Held S) × ExecutesAll g text.now old between (Ok tt) × ExecutedInTurn texts between new outcome)
