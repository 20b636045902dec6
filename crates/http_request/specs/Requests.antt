-- What a whole request says.
use Rattle.std.specs.Prelude.{◌≡◌, ◌⊎◌, ◌≤◌, ◌+◌, ℕ, List, length, take, drop}
use Rattle.httparse.specs.Grammar.{RequestHead, print_request}
use Rattle.http_request.specs.Fields.{AreValues, framing_of, ids_of}
use Rattle.http_request.specs.Heads.{HasHead, headers_of, Needs, NeedsHead}
use Rattle.http_request.specs.declared.kinds.Framing.TheVariants.{Body}
use Rattle.http_request.specs.declared.kinds.Need.TheVariants.{More as NeedsMore, Whole as NeedsNone, Refused as IsRefused}
use Rattle.http_request.specs.declared.kinds.RequestReading.{RequestReading}
use Rattle.http_request.specs.declared.kinds.RequestReading.TheVariants.{More, Whole, Refused}
use Rattle.http_request.specs.declared.kinds.EditorRequest as requests

pub record EditorRequest : Type 0 where
  pub method : List ℕ
  -- the target of the head, octet by octet
  pub target : List ℕ
  -- the values of the headers `Request-Id`
  pub ids : List (List ℕ)
  pub body : List ℕ

-- a head, and so many octets of what comes after it
abbrev pub request_of : List ℕ → RequestHead → ℕ → EditorRequest
request_of octets head size = record {
  method = head.method;
  target = head.target;
  ids = ids_of (headers_of head);
  body = take size (drop (length (print_request head)) octets);
}

-- a whole request stands at the front of the octets, and says this
pub record IsRequest (octets : List ℕ) (request : EditorRequest) : Type 0 where
  pub head : RequestHead
  pub has : HasHead octets head
  pub size : ℕ
  pub framed : framing_of (headers_of head) ≡ Body size
  pub fits : length (print_request head) + size ≤ length octets
  pub says : request ≡ request_of octets head size

-- the code's parts of a request are those of the request
pub record TellsRequest (told : requests.EditorRequest) (request : EditorRequest) : Type 0 where
  pub method : told.method.now ≡ request.method
  pub target : told.target.now ≡ request.target
  pub ids : AreValues told.ids request.ids
  pub body : told.body.now ≡ request.body

-- a head stands at the front, and with its body it has so many octets; or none does, and 0 is told
abbrev pub IsAwaited : List ℕ → ℕ → Type 0
IsAwaited octets size =
    ((head : RequestHead) × HasHead octets head × ((body : ℕ) × (framing_of (headers_of head) ≡ Body body) × (size ≡ length (print_request head) + body)))
    ⊎ (((head : RequestHead) → ¬ HasHead octets head) × (size ≡ 0))

abbrev pub IsReading : List ℕ → RequestReading → Type 0
IsReading octets (More size) = Needs octets NeedsMore × IsAwaited octets size
IsReading octets (Whole told) = Needs octets (NeedsNone told.len) × (request : EditorRequest) × IsRequest octets request × TellsRequest told request
IsReading octets (Refused status) = Needs octets (IsRefused status)

-- while no head is in these octets, the front
abbrev pub IsHeadReading : List ℕ → RequestReading → Type 0
IsHeadReading octets (More size) = NeedsHead octets NeedsMore × (size ≡ 0)
IsHeadReading octets (Whole told) = ⊥
IsHeadReading octets (Refused status) = NeedsHead octets (IsRefused status)
