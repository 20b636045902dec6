-- What a database is opened as, and why it isn't.
use Rattle.std.specs.Prelude.{◌≡◌, ◌≢◌, ◌<◌, ℕ}
use Rattle.sqlite.specs.Effect.{Database}
use Rattle.sqlite.specs.State.{State}
use Rattle.sqlite.specs.Tree.{Trees}
use Rattle.dict_catalogue.specs.Steps.{Catalogue}
use Rattle.dict_desk.specs.declared.fault.Fault.{Fault}
use Rattle.dict_desk.specs.declared.fault.Fault.TheVariants.{NotACatalogue, Damaged, NewerSchema}
use Rattle.store_holdings.specs.Holds.{IsHeld, IsLeft}
use Rattle.store_opening.specs.Opens.{HasMark, HasKnownMark, HoldsNone}
use Rattle.store_rows.specs.Versions.{known}

-- Each of the faults of an opening tells something of the database: there is no readable mark; its version is above the
-- known one; or the mark is readable and of a known version, and no catalogue is held.
pub record TellsOfDatabase (db : Database) (fault : Fault) : Type 0 where
  pub none : fault ≡ NotACatalogue → (version : ℕ) → HasMark db version → ⊥
  pub newer : fault ≡ NewerSchema → (version : ℕ) × HasMark db version × (known < version)
  pub damaged : fault ≡ Damaged → HasKnownMark db × HoldsNone db

-- No such fault comes of a database that holds a catalogue.
pub record IsNotHeld (db : Database) (fault : Fault) : Type 0 where
  pub none : fault ≡ NotACatalogue → (M : Catalogue) → IsHeld db M → ⊥
  pub newer : fault ≡ NewerSchema → (M : Catalogue) → IsHeld db M → ⊥
  pub damaged : fault ≡ Damaged → (M : Catalogue) → IsHeld db M → ⊥

-- Nor does one come of trees that a stop left of such a database.
abbrev pub IsNotLeft : Trees → Fault → Type 0
IsNotLeft trees fault = (M : Catalogue) → IsLeft M trees → (fault ≢ NotACatalogue) × (fault ≢ NewerSchema) × (fault ≢ Damaged)

-- whatever a store that is open shows and has committed is what is held by its trees
pub record HoldsItsTrees (s : State) : Type 0 where
  pub now : (M : Catalogue) → IsLeft M s.now.trees → IsHeld s.now M
  pub committed : (M : Catalogue) → IsLeft M s.committed.trees → IsHeld s.committed M
