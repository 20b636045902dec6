-- What the calls of a session leave of the desk that it asks.
use Rattle.std.specs.Prelude.{◌≡◌, Bool, true, List, Option}
use Rattle.dict_catalogue.specs.Steps.{Catalogue}

-- how a desk stands after a call: its last call by `&mut self` failed, and it is closed
pub record Condition : Type 0 where
  pub failed : Bool
  pub closed : Bool

-- the same by the desk's own tests
abbrev pub condition : {S : Type 0} → (S → Bool) → (S → Bool) → S → Condition
condition has_failed is_closed desk = record { failed = has_failed desk; closed = is_closed desk }

-- A desk that may be trusted afterwards could be before, and shows what it showed; a stop may leave nothing that it couldn't
-- leave before, and keeps what was beside the catalogue; and a closed desk stays closed. The relations are the desk's own.
pub record Stays {S Beside : Type 0} (Shows : S → Catalogue → Type 0) (LeavesOneOf : S → List (Option Catalogue) → Type 0) (KeepsBeside : S → Beside → Type 0) (IsTrusted : S → Type 0) (is_closed : S → Bool) (old new : S) : Type 0 where
  pub trust : IsTrusted new → IsTrusted old
  pub shows : IsTrusted new → (catalogue : Catalogue) → Shows old catalogue → Shows new catalogue
  pub leaves : (ms : List (Option Catalogue)) → LeavesOneOf old ms → LeavesOneOf new ms
  pub beside : (beside : Beside) → KeepsBeside old beside → KeepsBeside new beside
  pub closed : is_closed old ≡ true → is_closed new ≡ true

-- how a desk stands for the answer to one line: its last call behind the line failed, and it was closed before it
abbrev pub across : {S : Type 0} → (S → Bool) → (S → Bool) → S → S → Condition
across has_failed is_closed old new = record { failed = has_failed new; closed = is_closed old }
