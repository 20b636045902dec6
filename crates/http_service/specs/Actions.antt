-- What a request asks for: by its route and its method, and by its body.
use Rattle.std.specs.Prelude.{◌≡◌, ◌<◌, ◌⊎◌, ◌++◌, ◌^◌, ℕ, Bool, true, false, List, [], ◌∷◌, length, codes, decimal, if◌then◌else◌, Option, Some, None, IsUtf8}
use Rattle.std.specs.Str.{bytes_eq}
use Rattle.dict_index.specs.Edition.{Edition}
use Rattle.dict_index.specs.Meaning.{IsEdition, IsFault}
use Rattle.dict_index.specs.declared.fault.EditionRefusal.{EditionRefusal}
use Rattle.dict_catalogue.specs.Commands.{Command, install, rollback, retire, put_virtual, place}
use Rattle.http_service.specs.Bodies.{IsPlace, IsVirtual}
use Rattle.http_request.specs.declared.route_kinds.Route.{Route}
use Rattle.http_request.specs.declared.route_kinds.Route.TheVariants.{Databases, Database, Rollback as RollbackPath, Place as PlacePath, Virtual}
use Rattle.http_service.specs.declared.actions.Action.{Action}
use Rattle.http_service.specs.declared.actions.Action.TheVariants.{List as Listing, Install, Retire, Rollback, Place, PutVirtual}

-- what a route does by a method, if it has the method
abbrev pub action_of : Route → List ℕ → Option Action
action_of Databases method = if bytes_eq method (codes "GET") then Some Listing else None
action_of Database method =
    if bytes_eq method (codes "PUT") then Some Install else if bytes_eq method (codes "DELETE") then Some Retire else None
action_of RollbackPath method = if bytes_eq method (codes "POST") then Some Rollback else None
action_of PlacePath method = if bytes_eq method (codes "POST") then Some Place else None
action_of Virtual method = if bytes_eq method (codes "PUT") then Some PutVirtual else None

-- it changes the catalogue: each does but the list, where there is one
abbrev pub changes : Option Action → Bool
changes None = false
changes (Some Listing) = false
changes (Some Install) = true
changes (Some Retire) = true
changes (Some Rollback) = true
changes (Some Place) = true
changes (Some PutVirtual) = true

-- the body of an install is the length of its index in decimal, LF, the index and the text. The length has at most
-- eight digits
pub record IsInstallBody (body index text : List ℕ) : Type 0 where
  pub is : body ≡ decimal (length index) ++ 10 ∷ (index ++ text)
  pub few : length index < 10 ^ 8

-- what the body of a request says: a command; an edition that is refused, at a line where the refusal has one; or
-- nothing, as it has not the form
pub data BodyMeaning : Type 0 where
  command : Command Edition → BodyMeaning
  no_edition : EditionRefusal → Option ℕ → BodyMeaning
  unformed : BodyMeaning

-- of an install
abbrev pub SaysEdition : List ℕ → List ℕ → List ℕ → BodyMeaning → Type 0
SaysEdition name index text said =
    ((edition : Edition) × IsEdition index text edition × (said ≡ command (install name edition)))
    ⊎ ((refusal : EditionRefusal) × (line : Option ℕ) × IsFault index text refusal line × (said ≡ no_edition refusal line))

-- what a body says to an action, about a name
abbrev pub Says : Action → List ℕ → List ℕ → BodyMeaning → Type 0
Says Listing name body said = ⊥
Says Install name body said =
    ((index : List ℕ) × (text : List ℕ) × IsInstallBody body index text × SaysEdition name index text said)
    ⊎ (((index text : List ℕ) → ¬ IsInstallBody body index text) × (said ≡ unformed))
Says Retire name body said = said ≡ command (retire name)
Says Rollback name body said = said ≡ command (rollback name)
Says Place name body said =
    ((n : ℕ) × IsPlace body n × (said ≡ command (place name n))) ⊎ (((n : ℕ) → ¬ IsPlace body n) × (said ≡ unformed))
Says PutVirtual name body said =
    ((title : List ℕ) × (members : List (List ℕ)) × IsVirtual body title members × (said ≡ command (put_virtual name title members)))
    ⊎ (((title : List ℕ) (members : List (List ℕ)) → ¬ IsVirtual body title members) × (said ≡ unformed))

-- the one id of a request, where it is a text
pub record IsId (ids : List (List ℕ)) (id : List ℕ) : Type 0 where
  pub one : ids ≡ id ∷ []
  pub text : IsUtf8 id
