-- What a stop may leave of a store.
use Rattle.std.specs.Prelude.{List, Option, MatchOption}
use Rattle.std.specs.List.{Contains}
use Rattle.sqlite.specs.Tree.{Trees}
use Rattle.sqlite.specs.State.{State, HasCleanDisk}
use Rattle.dict_catalogue.specs.Steps.{Catalogue}
use Rattle.store_holdings.specs.Holds.{IsLeft}

-- trees of which the catalogue is opened again, or of which none is
abbrev pub StandsFor : Option Catalogue → Trees → Type 0
StandsFor m trees = MatchOption m ((M : Catalogue) → IsLeft M trees → ⊥) (λ M. IsLeft M trees)

-- whatever a stop now leaves stands for one of these
abbrev pub StateLeavesOneOf : State → List (Option Catalogue) → Type 0
StateLeavesOneOf s ms = HasCleanDisk s → (trees : Trees) → s.may_leave trees → (m : Option Catalogue) × Contains ms m × StandsFor m trees
