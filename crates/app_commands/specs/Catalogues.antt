-- What is known of a catalogue that was made, read whole or asked, whatever does it.
use Rattle.std.specs.Prelude.{[], ◌∷◌, List, Option, Some, Result, Ok, Err, ⊤}
use Rattle.dict_catalogue.specs.Steps.{Catalogue, empty_catalogue}
use Rattle.dict_proto.specs.Streams.{StreamChange}
use Rattle.app_words.specs.Writing.{IsUntouched}
use Rattle.app_words.specs.declared.fault.ProgramFault.{ProgramFault}
use Rattle.app_words.specs.declared.fault.ProgramFault.TheVariants as faults

-- a session that ended well, or by a fault of its own; else nothing was read or written
abbrev pub IsSpared : Result (Unit {0}) ProgramFault → StreamChange → StreamChange → Type 0
IsSpared (Ok _) reader writer = ⊤
IsSpared (Err faults.SessionEnded) reader writer = ⊤
IsSpared (Err fault) reader writer = IsUntouched reader × IsUntouched writer

-- a desk shows the empty catalogue, which was made, and a stop leaves that one alone
pub record IsMadeEmpty {K : Type 0} (Shows : K → Catalogue → Type 0) (LeavesOneOf : K → List (Option Catalogue) → Type 0) (IsNew : K → Type 0) (desk : K) : Type 0 where
  pub new : IsNew desk
  pub shows : Shows desk empty_catalogue
  pub only : LeavesOneOf desk (Some empty_catalogue ∷ [])

-- a desk shows what it showed, a stop may leave nothing that it couldn't leave before, and what is beside the catalogue is kept
pub record StaysTrusted {K Beside : Type 0} (Shows : K → Catalogue → Type 0) (LeavesOneOf : K → List (Option Catalogue) → Type 0) (KeepsBeside : K → Beside → Type 0) (IsTrusted : K → Type 0) (old new : K) : Type 0 where
  pub trust : IsTrusted new → IsTrusted old
  pub shows : IsTrusted new → (M : Catalogue) → Shows old M → Shows new M
  pub leaves : (ms : List (Option Catalogue)) → LeavesOneOf old ms → LeavesOneOf new ms
  pub beside : (beside : Beside) → KeepsBeside old beside → KeepsBeside new beside
