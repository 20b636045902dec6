-- What a call of a desk that changes no catalogue leaves of it, and how it ends.
use Rattle.std.specs.Prelude.{◌≡◌, ◌↔◌, ◌||◌, Bool, true, List, Option, Result, Err, IfErr}
use Rattle.dict_catalogue.specs.Steps.{Catalogue}
use Rattle.dict_desk.specs.Faults.{IsOfLookup, has_closed_by, has_failed_by}
use Rattle.dict_desk.specs.declared.fault.Fault.{Fault}
use Rattle.dict_desk.specs.declared.fault.Fault.TheVariants.{Closed}

-- A desk that may be trusted afterwards could be before, and shows what it showed; a stop may leave nothing that it couldn't leave before,
-- and keeps what was beside the catalogue. The call fails by a fault of lookups, for a cause that is named; the desk has failed then, or if
-- this stands for it (`had_failed`); it is closed where it was, or where the call closed it; and `Closed` tells just that it was closed before.
-- The relations are the desk's own.
pub record KeepsCatalogue {S Beside T : Type 0} (Shows : S → Catalogue → Type 0) (LeavesOneOf : S → List (Option Catalogue) → Type 0) (KeepsBeside : S → Beside → Type 0) (IsTrusted : S → Type 0)
    (has_failed is_closed : S → Bool) (GivesWay : S → S → Fault → Type 0) (had_failed : Bool) (old new : S) (result : Result T Fault) : Type 0 where
  pub trust : IsTrusted new → IsTrusted old
  pub beside : (beside : Beside) → KeepsBeside old beside → KeepsBeside new beside
  pub shows : IsTrusted new → (M : Catalogue) → Shows old M → Shows new M
  pub leaves : (ms : List (Option Catalogue)) → LeavesOneOf old ms → LeavesOneOf new ms
  pub kinds : IfErr result IsOfLookup
  pub caused : IsTrusted new → IfErr result (GivesWay old new)
  pub failed : has_failed new ≡ (had_failed || has_failed_by result)
  pub closes : is_closed new ≡ (is_closed old || has_closed_by result)
  pub closed : (result ≡ Err Closed) ↔ (is_closed old ≡ true)
