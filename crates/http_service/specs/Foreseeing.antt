-- What a request asks for, before it is answered.
use Rattle.std.specs.Prelude.{◌≡◌, ℕ, Bool, List, Option, None, Some, true, false}
use Rattle.dict_text.specs.Names.{is_request_id}
use Rattle.dict_catalogue.specs.Commands.{place, put_virtual, retire, rollback}
use Rattle.dict_catalogue.specs.Steps.{Catalogue, kept_under}
use Rattle.http_request.specs.Requests.{EditorRequest, IsRequest}
use Rattle.http_request.specs.Paths.{IsPath}
use Rattle.http_request.specs.declared.route_kinds.Route.{Route}
use Rattle.dict_desk.specs.Expected.{Expected, of_command, of_files}
use Rattle.http_service.specs.Actions.{action_of, changes, IsInstallBody, IsId}
use Rattle.http_service.specs.Bodies.{IsPlace, IsVirtual}
use Rattle.http_service.specs.declared.actions.Action.{Action}
use Rattle.http_service.specs.declared.actions.Action.TheVariants.{List as Listing, Install, Retire, Rollback, Place, PutVirtual}

-- a whole request stands at the front of the octets, whose route and method change the catalogue
pub record AsksForCommand (octets : List ℕ) : Type 0 where
  pub request : EditorRequest
  pub is : IsRequest octets request
  pub route : Route
  pub name : List ℕ
  pub path : IsPath request.target route name
  pub change : changes (action_of route request.method) ≡ true

-- the body of an install has these two files, about the name
abbrev pub SaysInstall : List ℕ → List ℕ → Expected → Type 0
SaysInstall name body asked = (index : List ℕ) × (text : List ℕ) × IsInstallBody body index text × (asked ≡ of_files name index text)

-- this action asks for it, about the name: an install by the files of its body, another change by its command; a list asks for none
abbrev pub SaysChange : Action → List ℕ → List ℕ → Expected → Type 0
SaysChange Listing name body asked = ⊥
SaysChange Install name body asked = SaysInstall name body asked
SaysChange Retire name body asked = asked ≡ of_command (retire name)
SaysChange Rollback name body asked = asked ≡ of_command (rollback name)
SaysChange Place name body asked = (n : ℕ) × IsPlace body n × (asked ≡ of_command (place name n))
SaysChange PutVirtual name body asked = (title : List ℕ) × (members : List (List ℕ)) × IsVirtual body title members × (asked ≡ of_command (put_virtual name title members))

-- so it is, under one lawful id
pub record AsksBy (action : Action) (ids : List (List ℕ)) (name body : List ℕ) (asked : Expected) : Type 0 where
  pub id : List ℕ
  pub one : IsId ids id
  pub lawful : is_request_id id ≡ true
  pub says : SaysChange action name body asked

-- and under that id no reply is kept
pub record AsksAnewBy (before : Catalogue) (action : Action) (ids : List (List ℕ)) (name body : List ℕ) (asked : Expected) : Type 0 where
  pub asks : AsksBy action ids name body asked
  pub anew : kept_under before.kept asks.id ≡ None

-- a whole request stands at the front of the octets, and what its route and its method do asks for this
pub record AsksForChange (octets : List ℕ) (asked : Expected) : Type 0 where
  pub request : EditorRequest
  pub is : IsRequest octets request
  pub route : Route
  pub name : List ℕ
  pub path : IsPath request.target route name
  pub action : Action
  pub acts : action_of route request.method ≡ Some action
  pub asks : AsksBy action request.ids name request.body asked

-- and under the one id of that request no reply is kept
pub record AsksAnewForChange (before : Catalogue) (octets : List ℕ) (asked : Expected) : Type 0 where
  pub asks : AsksForChange octets asked
  pub anew : kept_under before.kept asks.asks.id ≡ None

-- what led from one keeper to the next is that it was told of what is asked for, and nothing else
pub record IsToldOver {K : Type 0} (expects : K → Expected → K → Type 0) (Asks : Expected → Type 0) (before keeper : K) : Type 0 where
  pub asked : Expected
  pub asks : Asks asked
  pub told : expects before asked keeper

-- By what a keeper shows, what a stop may leave of it, what is beside the catalogue, that what it stands on has returned what was written,
-- and whether its last call failed and it is closed.
module _ {K Beside : Type 0} (Shows : K → Catalogue → Type 0) (LeavesOneOf : K → List (Option Catalogue) → Type 0) (KeepsBeside : K → Beside → Type 0) (IsTrusted : K → Type 0) (has_failed is_closed : K → Bool) where
  -- what led from one keeper to the next is that it was asked for a kept reply, and there was none
  pub record FindsNoReply (old new : K) : Type 0 where
    pub trust : IsTrusted new → IsTrusted old
    pub beside : (one : Beside) → KeepsBeside old one → KeepsBeside new one
    pub shows : IsTrusted new → (M : Catalogue) → Shows old M → Shows new M
    pub leaves : (ms : List (Option Catalogue)) → LeavesOneOf old ms → LeavesOneOf new ms
    pub answered : has_failed new ≡ false
    pub was_open : is_closed old ≡ false
    pub is_open : is_closed new ≡ false

  -- so it is, and right behind that it was told of this, and took note: that call didn't fail
  pub record IsToldAnew (expects : K → Expected → K → Type 0) (old : K) (asked : Expected) (new : K) : Type 0 where
    pub between : K
    pub finds : FindsNoReply old between
    pub told : expects between asked new
    pub took : has_failed new ≡ false
