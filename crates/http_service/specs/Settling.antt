-- The answer to a request over a catalogue, and the catalogue after it: the first test that applies.
use Rattle.std.specs.Prelude.{◌≡◌, ◌⊎◌, ℕ, Bool, true, false, List, MatchOption}
use Rattle.dict_index.specs.Edition.{Edition}
use Rattle.dict_catalogue.specs.Commands.{Command}
use Rattle.dict_catalogue.specs.Steps.{Catalogue, CommandReply, accepted, refused, step, kept_under, summary_of}
use Rattle.http_service.specs.Texts.{kept_text, list_text, refused_command_text, refused_edition_text}
use Rattle.http_request.specs.Heads.{Needs}
use Rattle.http_request.specs.Requests.{EditorRequest, IsRequest}
use Rattle.http_request.specs.declared.kinds.Need.TheVariants.{Refused}
use Rattle.http_request.specs.declared.statuses.Status.{Status}
use Rattle.http_request.specs.declared.statuses.Status.TheVariants.{Ok, BadRequest, NotFound, Conflict, UnprocessableContent}
use Rattle.http_request.specs.Paths.{IsPath}
use Rattle.http_request.specs.declared.route_kinds.Route.{Route}
use Rattle.http_service.specs.Answers.{Response, with_body, plain, not_allowed}
use Rattle.http_service.specs.Actions.{action_of, BodyMeaning, command, no_edition, unformed, Says, IsId}
use Rattle.http_service.specs.declared.actions.Action.{Action}
use Rattle.http_service.specs.declared.actions.Action.TheVariants.{List as Listing, Install, Retire, Rollback, Place, PutVirtual}

-- an answer, whether a command was accepted and did its effect, and the catalogue after it
pub record Settled : Type 0 where
  pub response : Response
  pub acts : Bool
  pub catalogue : Catalogue

-- the catalogue stays
abbrev pub stays : Catalogue → Response → Settled
stays before response = record { response = response; acts = false; catalogue = before }

-- the answer to a command
abbrev pub replied : CommandReply → Response
replied (accepted kept) = with_body Ok (kept_text kept)
replied (refused refusal) = with_body Conflict (refused_command_text refusal)

abbrev pub is_accepted : CommandReply → Bool
is_accepted (accepted kept) = true
is_accepted (refused refusal) = false

-- a command under a new id
abbrev pub applied : Catalogue → List ℕ → Command Edition → Settled
applied before id asked =
    let outcome = step before id asked in
    record { response = replied outcome.reply; acts = is_accepted outcome.reply; catalogue = outcome.catalogue }

-- what a body says, under a new id
abbrev pub settled_by : Catalogue → List ℕ → BodyMeaning → Settled
settled_by before id (command asked) = applied before id asked
settled_by before id (no_edition refusal line) = stays before (with_body UnprocessableContent (refused_edition_text refusal line))
settled_by before id unformed = stays before (plain BadRequest)

-- a request that changes, under a new id: what its body says
abbrev pub SettlesNew : Catalogue → List ℕ → Action → List ℕ → List ℕ → Settled → Type 0
SettlesNew before id action name body settled = (said : BodyMeaning) × Says action name body said × (settled ≡ settled_by before id said)

-- a request that changes, under an id: a kept one answers its reply again, and the body isn't looked at
abbrev pub SettlesChange : Catalogue → List ℕ → Action → List ℕ → List ℕ → Settled → Type 0
SettlesChange before id action name body settled =
    MatchOption (kept_under before.kept id) (SettlesNew before id action name body settled)
    (λ kept. settled ≡ stays before (with_body Ok (kept_text kept)))

-- a request that changes wants one id, which is a text
abbrev pub SettlesIds : Catalogue → List (List ℕ) → Action → List ℕ → List ℕ → Settled → Type 0
SettlesIds before ids action name body settled =
    ((id : List ℕ) × IsId ids id × SettlesChange before id action name body settled)
    ⊎ (((id : List ℕ) → ¬ IsId ids id) × (settled ≡ stays before (plain BadRequest)))

-- the list, or a change
abbrev pub SettlesAction : Catalogue → EditorRequest → Action → List ℕ → Settled → Type 0
SettlesAction before request Listing name settled = settled ≡ stays before (with_body Ok (list_text (summary_of before).items))
SettlesAction before request Install name settled = SettlesIds before request.ids Install name request.body settled
SettlesAction before request Retire name settled = SettlesIds before request.ids Retire name request.body settled
SettlesAction before request Rollback name settled = SettlesIds before request.ids Rollback name request.body settled
SettlesAction before request Place name settled = SettlesIds before request.ids Place name request.body settled
SettlesAction before request PutVirtual name settled = SettlesIds before request.ids PutVirtual name request.body settled

-- the route has the method, or it hasn't
abbrev pub SettlesRoute : Catalogue → EditorRequest → Route → List ℕ → Settled → Type 0
SettlesRoute before request route name settled =
    MatchOption (action_of route request.method) (settled ≡ stays before (not_allowed route))
    (λ action. SettlesAction before request action name settled)

-- a route has the path, or none has
abbrev pub SettlesRequest : Catalogue → EditorRequest → Settled → Type 0
SettlesRequest before request settled =
    ((route : Route) × (name : List ℕ) × IsPath request.target route name × SettlesRoute before request route name settled)
    ⊎ (((route : Route) (name : List ℕ) → ¬ IsPath request.target route name) × (settled ≡ stays before (plain NotFound)))

-- octets that are refused, or a whole request
abbrev pub Settles : Catalogue → List ℕ → Settled → Type 0
Settles before octets settled =
    ((status : Status) × Needs octets (Refused status) × (settled ≡ stays before (plain status)))
    ⊎ ((request : EditorRequest) × IsRequest octets request × SettlesRequest before request settled)
