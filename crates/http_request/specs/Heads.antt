-- How much of a request there is. RFC 9112, sections 2 and 6; the limits are this server's.
use Rattle.std.specs.Prelude.{◌≡◌, ◌<◌, ◌≤◌, ◌+◌, ◌⊎◌, ℕ, List, length, map, take, slice_index}
use Rattle.httparse.specs.Grammar.{RequestHead, ReadsRequest, print_request}
use Rattle.httparse.specs.Spans.{name_and_value}
use Rattle.http_request.specs.Fields.{Header, framing_of}
use Rattle.http_request.specs.declared.kinds.Need as needs
use Rattle.http_request.specs.declared.kinds.Need.TheVariants.{More, Whole, Refused}
use Rattle.http_request.specs.declared.kinds.Framing as framings
use Rattle.http_request.specs.declared.kinds.Framing.TheVariants.{Body, Refused as NoBody}
use Rattle.http_request.specs.declared.statuses.Status.TheVariants.{BadRequest}

-- the octets in which a head must stand
abbrev pub front_of : List ℕ → List ℕ
front_of octets = take 8192 octets

-- a head of at most 32 headers stands at the front. A head is one by the grammar of `httparse`
pub record HasHead (octets : List ℕ) (head : RequestHead) : Type 0 where
  pub rest : List ℕ
  pub reads : ReadsRequest (front_of octets) head rest
  pub few : length head.fields ≤ 32

-- the headers of a head
abbrev pub headers_of : RequestHead → List Header
headers_of head = map name_and_value head.fields

abbrev pub IsLineEnd : ℕ → Type 0
IsLineEnd octet = (octet ≡ 13) ⊎ (octet ≡ 10)

-- CR LF CR LF stands at a place after some octet that is no CR and no LF
pub record HasEnd (octets : List ℕ) : Type 0 where
  pub other : ℕ
  pub place : ℕ
  pub is_other : ¬ IsLineEnd (slice_index octets other)
  pub ordered : other < place
  pub fits : place + 4 ≤ length octets
  pub cr : slice_index octets place ≡ 13
  pub lf : slice_index octets (place + 1) ≡ 10
  pub second_cr : slice_index octets (place + 2) ≡ 13
  pub second_lf : slice_index octets (place + 3) ≡ 10

-- no head is awaited in these octets any more
abbrev pub IsClosed : List ℕ → Type 0
IsClosed octets = (length octets ≡ 8192) ⊎ HasEnd octets

-- what is needed while no head is in these octets, the front
abbrev pub NeedsHead : List ℕ → needs.Need → Type 0
NeedsHead octets need = (IsClosed octets × need ≡ Refused BadRequest) ⊎ ((IsClosed octets → ⊥) × need ≡ More)

-- what is needed after a head of so many octets that tells of this body
abbrev pub NeedsBody : List ℕ → ℕ → framings.Framing → needs.Need → Type 0
NeedsBody octets size (NoBody status) need = need ≡ Refused status
NeedsBody octets size (Body body) need =
    (length octets < size + body × need ≡ More) ⊎ (size + body ≤ length octets × need ≡ Whole (size + body))

-- what is needed of a request of which these octets have come
abbrev pub Needs : List ℕ → needs.Need → Type 0
Needs octets need =
    ((head : RequestHead) × HasHead octets head × NeedsBody octets (length (print_request head)) (framing_of (headers_of head)) need)
    ⊎ (((head : RequestHead) → ¬ HasHead octets head) × NeedsHead (front_of octets) need)
