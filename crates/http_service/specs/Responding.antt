-- What holds after an answer, over a catalogue that a keeper showed. The keeper's tests and relations are arguments: whether it is closed
-- after, which catalogue it shows after, and of which states a stop may have left one before and may leave one after.
use Rattle.std.specs.Prelude.{◌≡◌, ◌⊎◌, ℕ, Bool, true, false, List, [], ◌∷◌, Option, Some, MatchBool}
use Rattle.dict_catalogue.specs.Steps.{Catalogue}
use Rattle.dict_desk.specs.Applying.{LeavesNoMore}
use Rattle.http_request.specs.declared.statuses.Status.{Status}
use Rattle.http_request.specs.declared.statuses.Status.TheVariants.{Ok, BadRequest, NotFound, MethodNotAllowed, Conflict, ContentTooLarge, UnprocessableContent, ServiceUnavailable}
use Rattle.http_service.specs.Answers.{Response, response_text, unavailable_text}
use Rattle.http_service.specs.Settling.{Settled}

-- the octets are this response's, or those of the one answer for want of memory
abbrev pub IsAnswer : List ℕ → Response → Type 0
IsAnswer octets response = (octets ≡ response_text response) ⊎ (octets ≡ unavailable_text)

-- once a command acted, a stop leaves the catalogue after it alone; else nothing new
abbrev pub LeavesBy : (List (Option Catalogue) → Type 0) → (List (Option Catalogue) → Type 0) → Settled → Type 0
LeavesBy Before After settled = MatchBool settled.acts (After (Some settled.catalogue ∷ [])) (LeavesNoMore Before After)

-- The answer that is settled; or the one for want of memory or a failure of the store, and then nothing was done; or all that is settled
-- was, as if it had been answered; or the store failed, the catalogue is the one before or the one that is settled, and a stop may leave
-- that one too: then the keeper is closed.
pub data RespondsOrFails (closed : Bool) (Shows : Catalogue → Type 0) (Before After : List (Option Catalogue) → Type 0) (before : Catalogue) (settled : Settled) (octets : List ℕ) : Type 0 where
  answered : octets ≡ response_text settled.response → Shows settled.catalogue → LeavesBy Before After settled → RespondsOrFails closed Shows Before After before settled octets
  unchanged : octets ≡ unavailable_text → Shows before → LeavesNoMore Before After → RespondsOrFails closed Shows Before After before settled octets
  done : octets ≡ unavailable_text → Shows settled.catalogue → LeavesBy Before After settled → RespondsOrFails closed Shows Before After before settled octets
  unknown : octets ≡ unavailable_text → closed ≡ true → Shows before ⊎ Shows settled.catalogue
      → ((ms : List (Option Catalogue)) → Before ms → After (Some settled.catalogue ∷ ms)) → RespondsOrFails closed Shows Before After before settled octets

-- what is settled by a definition, so ended; or the answer for want of memory before anything was changed
pub data Responds (closed : Bool) (Shows : Catalogue → Type 0) (Before After : List (Option Catalogue) → Type 0) (before : Catalogue) (Is : Settled → Type 0) (octets : List ℕ) : Type 0 where
  ended : (settled : Settled) → Is settled → RespondsOrFails closed Shows Before After before settled octets → Responds closed Shows Before After before Is octets
  failed : octets ≡ unavailable_text → Shows before → LeavesNoMore Before After → Responds closed Shows Before After before Is octets

-- an answer with this status tells what only a keeper can: the list, a reply, or why a command or an edition is refused
abbrev pub is_of_keeper : Status → Bool
is_of_keeper Ok = true
is_of_keeper BadRequest = false
is_of_keeper NotFound = false
is_of_keeper MethodNotAllowed = false
is_of_keeper Conflict = true
is_of_keeper ContentTooLarge = false
is_of_keeper UnprocessableContent = true
is_of_keeper ServiceUnavailable = false

-- where the keeper was closed before, 503 stands in the place of each such answer that is settled by a definition
abbrev pub Withholds : Bool → (Settled → Type 0) → List ℕ → Type 0
Withholds closed Is octets = closed ≡ true → (settled : Settled) → Is settled → is_of_keeper settled.response.status ≡ true → octets ≡ unavailable_text
