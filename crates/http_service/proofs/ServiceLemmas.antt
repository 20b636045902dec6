-- What is settled of a request, test by test.
use Rattle.std.proofs.Common.{◌≡◌, ◌≢◌, ◌⊎◌, inl, inr, ◌+◌, ℕ, Bool, true, false, List, length, refl, sym, ap, ◌∙◌, subst}
use Rattle.std.specs.Prelude.{Option, Some, None, MatchOption, [], ◌∷◌, nat_le, codes, if◌then◌else◌}
use Rattle.httparse.specs.Grammar.{print_request}
use Rattle.dict_catalogue.specs.Steps.{Catalogue}
use Rattle.http_request.specs.Fields.{framing_of, framing_of_codings, framing_of_length, framing_of_lengths, length_of, values_of}
use Rattle.http_request.specs.Heads.{headers_of, Needs, NeedsBody}
use Rattle.http_request.specs.Paths.{IsPath}
use Rattle.http_request.specs.Requests.{EditorRequest, IsRequest}
use Rattle.http_request.specs.declared.kinds.Framing.{Framing}
use Rattle.http_request.specs.declared.kinds.Framing.TheVariants.{Body, Refused as NoBody}
use Rattle.http_request.specs.declared.kinds.Need.TheVariants as needs
use Rattle.http_request.specs.declared.route_kinds.Route.{Route}
use Rattle.http_request.specs.declared.statuses.Status.{Status}
use Rattle.http_request.specs.declared.statuses.Status.TheVariants.{BadRequest, NotFound, ContentTooLarge}
use Rattle.http_request.proofs.LawLemmas.{one, one_request}
use Rattle.http_request.proofs.RouteLawLemmas.{one_route, one_name}
use Rattle.http_service.specs.Answers.{Response, plain, not_allowed}
use Rattle.http_service.specs.Actions.{action_of, changes, IsId}
use Rattle.http_service.specs.Settling.{Settled, stays, SettlesIds, SettlesAction, SettlesRoute, SettlesRequest, Settles}
use Rattle.http_service.specs.Responding.{is_of_keeper}
use Rattle.http_service.specs.declared.actions.Action.{Action}
use Rattle.http_service.specs.declared.actions.Action.TheVariants.{List as Listing, Install, Retire, Rollback, Place, PutVirtual}

-- a request that changes, by its ids
pub settles_ids : (M : Catalogue) (asked : EditorRequest) (action : Action) (name : List ℕ) (s : Settled) → action ≢ Listing → SettlesIds M asked.ids action name asked.body s → SettlesAction M asked action name s
settles_ids M asked Listing name s other ids = absurd (other refl)
settles_ids M asked Install name s other ids = ids
settles_ids M asked Retire name s other ids = ids
settles_ids M asked Rollback name s other ids = ids
settles_ids M asked Place name s other ids = ids
settles_ids M asked PutVirtual name s other ids = ids

-- a route that hasn't the method, and one that has it
pub settles_none : (M : Catalogue) (asked : EditorRequest) (route : Route) (name : List ℕ) → None ≡ action_of route asked.method → SettlesRoute M asked route name (stays M (not_allowed route))
settles_none M asked route name e =
    let s = stays M (not_allowed route) in
    subst (λ o. MatchOption o (s ≡ stays M (not_allowed route)) (λ action. SettlesAction M asked action name s)) e refl

pub settles_action : (M : Catalogue) (asked : EditorRequest) (route : Route) (name : List ℕ) (action : Action) (s : Settled) → Some action ≡ action_of route asked.method → SettlesAction M asked action name s
    → SettlesRoute M asked route name s
settles_action M asked route name action s e is =
    subst (λ o. MatchOption o (s ≡ stays M (not_allowed route)) (λ action. SettlesAction M asked action name s)) e is

-- The same read back: an answer that no keeper is asked for isn't one that only a keeper can tell.

-- an answer with another status
pub not_of_keeper : (M : Catalogue) (response : Response) (s : Settled) → s ≡ stays M response → is_of_keeper response.status ≡ false → is_of_keeper s.response.status ≡ true → ⊥
not_of_keeper M response s is isnt kind = let never : true ≡ false = sym kind ∙ ap (λ (t : Settled). is_of_keeper t.response.status) is ∙ isnt in cc

-- where no id is one, by the ids
without_id : (M : Catalogue) (ids : List (List ℕ)) (action : Action) (name body : List ℕ) (s : Settled) → ((id : List ℕ) → IsId ids id → ⊥) → SettlesIds M ids action name body s
    → is_of_keeper s.response.status ≡ true → ⊥
without_id M ids action name body s none (inl (id, one_is, settles)) kind = none id one_is
without_id M ids action name body s none (inr (so, is)) kind = not_of_keeper M (plain BadRequest) s is refl kind

pub no_id : (M : Catalogue) (asked : EditorRequest) (action : Action) (name : List ℕ) (s : Settled) → action ≢ Listing → ((id : List ℕ) → IsId asked.ids id → ⊥) → SettlesAction M asked action name s
    → is_of_keeper s.response.status ≡ true → ⊥
no_id M asked Listing name s other none is kind = other refl
no_id M asked Install name s other none is kind = without_id M asked.ids Install name asked.body s none is kind
no_id M asked Retire name s other none is kind = without_id M asked.ids Retire name asked.body s none is kind
no_id M asked Rollback name s other none is kind = without_id M asked.ids Rollback name asked.body s none is kind
no_id M asked Place name s other none is kind = without_id M asked.ids Place name asked.body s none is kind
no_id M asked PutVirtual name s other none is kind = without_id M asked.ids PutVirtual name asked.body s none is kind

-- by the route that was found
pub settles_at : (M : Catalogue) (asked : EditorRequest) (route : Route) (name : List ℕ) (s : Settled) → IsPath asked.target route name → SettlesRequest M asked s → SettlesRoute M asked route name s
settles_at M asked route name s path (inl (other, called, there, settles)) =
    subst (λ (n : List ℕ). SettlesRoute M asked route n s) (one_name asked.target other route called name there path)
    (subst (λ r. SettlesRoute M asked r called s) (one_route asked.target other route called name there path) settles)
settles_at M asked route name s path (inr (none, is)) = absurd (none route name path)

-- by the action, where the route has the method
pub action_at : (M : Catalogue) (asked : EditorRequest) (route : Route) (name : List ℕ) (action : Action) (s : Settled) → Some action ≡ action_of route asked.method → SettlesRoute M asked route name s
    → SettlesAction M asked action name s
action_at M asked route name action s e is =
    subst (λ o. MatchOption o (s ≡ stays M (not_allowed route)) (λ does. SettlesAction M asked does name s)) (sym e) is

-- no route has the path, or the route hasn't the method
pub no_route : (M : Catalogue) (asked : EditorRequest) (s : Settled) → ((route : Route) (name : List ℕ) → IsPath asked.target route name → ⊥) → SettlesRequest M asked s → is_of_keeper s.response.status ≡ true → ⊥
no_route M asked s none (inl (route, name, path, settles)) kind = none route name path
no_route M asked s none (inr (so, is)) kind = not_of_keeper M (plain NotFound) s is refl kind

pub no_action : (M : Catalogue) (asked : EditorRequest) (route : Route) (name : List ℕ) (s : Settled) → None ≡ action_of route asked.method → SettlesRoute M asked route name s
    → is_of_keeper s.response.status ≡ true → ⊥
no_action M asked route name s e is kind =
    not_of_keeper M (not_allowed route) s (subst (λ o. MatchOption o (s ≡ stays M (not_allowed route)) (λ does. SettlesAction M asked does name s)) (sym e) is) refl kind

-- of a whole request no more is needed
whole_needs : (octets : List ℕ) (request : EditorRequest) (is : IsRequest octets request) → Needs octets (needs.Whole (length (print_request is.head) + is.size))
whole_needs octets request is = inl (is.head, is.has, rw is.framed (inr (is.fits, refl)))

-- by the request, where one is whole
pub settles_whole : (M : Catalogue) (octets : List ℕ) (asked : EditorRequest) (s : Settled) → IsRequest octets asked → Settles M octets s → SettlesRequest M asked s
settles_whole M octets asked s is (inl (status, needed, said)) =
    absurd (let never : needs.Refused status ≡ needs.Whole (length (print_request is.head) + is.size) = one octets _ _ needed (whole_needs octets asked is) in cc)
settles_whole M octets asked s is (inr (other, so, settles)) = subst (λ r. SettlesRequest M r s) (one_request octets other asked so is) settles

-- octets are refused for their form, or for the length of the body
size_status : (few : Bool) (size : ℕ) (status : Status) → (if few then Body size else NoBody ContentTooLarge) ≡ NoBody status → (status ≡ BadRequest) ⊎ (status ≡ ContentTooLarge)
size_status true size status is = cc is
size_status false size status is = inr (cc is)

length_status : (size : Option ℕ) (status : Status) → framing_of_length size ≡ NoBody status → (status ≡ BadRequest) ⊎ (status ≡ ContentTooLarge)
length_status None status is = inl (cc is)
length_status (Some size) status is = size_status (nat_le size 83886080) size status is

lengths_status : (lengths : List (List ℕ)) (status : Status) → framing_of_lengths lengths ≡ NoBody status → (status ≡ BadRequest) ⊎ (status ≡ ContentTooLarge)
lengths_status [] status is = cc is
lengths_status (value ∷ []) status is = length_status (length_of value) status is
lengths_status (value ∷ second ∷ others) status is = inl (cc is)

codings_status : (codings lengths : List (List ℕ)) (status : Status) → framing_of_codings codings lengths ≡ NoBody status → (status ≡ BadRequest) ⊎ (status ≡ ContentTooLarge)
codings_status [] lengths status is = lengths_status lengths status is
codings_status (value ∷ others) lengths status is = inl (cc is)

body_status : (octets : List ℕ) (size : ℕ) (framing : Framing) (status : Status) → NeedsBody octets size framing (needs.Refused status) → framing ≡ NoBody status
body_status octets size (NoBody other) status needed = let same : needs.Refused status ≡ needs.Refused other = needed in cc
body_status octets size (Body n) status (inl (less, never)) = cc never
body_status octets size (Body n) status (inr (whole, never)) = cc never

refused_status : (octets : List ℕ) (status : Status) → Needs octets (needs.Refused status) → (status ≡ BadRequest) ⊎ (status ≡ ContentTooLarge)
refused_status octets status (inl (head, has, needed)) =
    codings_status (values_of (codes "transfer-encoding") (headers_of head)) (values_of (codes "content-length") (headers_of head)) status
    (body_status octets (length (print_request head)) (framing_of (headers_of head)) status needed)
refused_status octets status (inr (none, inl (closed, is))) = inl (let same : needs.Refused status ≡ needs.Refused BadRequest = is in cc)
refused_status octets status (inr (none, inr (awaits, is))) = cc is

pub no_request : (M : Catalogue) (octets : List ℕ) (status : Status) (s : Settled) → Needs octets (needs.Refused status) → Settles M octets s
    → is_of_keeper s.response.status ≡ true → ⊥
no_request M octets status s needed (inl (other, so, is)) kind =
    let told : needs.Refused other ≡ needs.Refused status = one octets _ _ so needed in
    let same : other ≡ status = cc told in
    let isnt : is_of_keeper status ≡ false = elim (refused_status octets status needed) [ inl bad ↦ ap is_of_keeper bad | inr large ↦ ap is_of_keeper large ] in
    not_of_keeper M (plain other) s is (ap is_of_keeper same ∙ isnt) kind
no_request M octets status s needed (inr (request, is, settles)) kind =
    let never : needs.Whole (length (print_request is.head) + is.size) ≡ needs.Refused status = one octets _ _ (whole_needs octets request is) needed in cc

-- What asks for no command.

pub only_list : (action : Action) → changes (Some action) ≡ false → action ≡ Listing
only_list Listing is = refl
only_list Install is = cc is
only_list Retire is = cc is
only_list Rollback is = cc is
only_list Place is = cc is
only_list PutVirtual is = cc is

pub false_unless : (b : Bool) → (b ≡ true → ⊥) → b ≡ false
false_unless true isnt = absurd (isnt refl)
false_unless false isnt = refl
