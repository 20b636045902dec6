-- From what `httparse` says of the front to what is needed, and to the request.
use Rattle.std.proofs.Common.{rules, ◌≡◌, ◌<◌, ◌≤◌, ◌+◌, ◌-◌, ◌++◌, inl, inr, ℕ, Bool, true, false, Option, Some, None, List, [], ◌∷◌, length, map, take, drop, refl, sym, ap, ◌∙◌, subst, arith, codes}
use Rattle.std.specs.Prelude.{nat_le, if◌then◌else◌}
use Rattle.std.proofs.lemmas.Bool.Decides.{nat_tests}
use Rattle.std.proofs.lemmas.List.{length-map, length-take, length-take-le, length-drop}
use Rattle.std.proofs.Math.Seq.{take-length}
use Rattle.httparse.specs.declared.spans.HeaderSpan.{HeaderSpan}
use Rattle.httparse.specs.declared.spans.RequestSpans.{RequestSpans}
use Rattle.httparse.specs.Grammar.{RequestHead, ReadsRequest, HasNoRequest}
use Rattle.httparse.specs.Spans.{IsRequestOf, IsRequestAt, IsRequestWithin, RequestOverflows, header_bytes, name_and_value}
use Rattle.http_request.specs.declared.kinds.Need.{Need}
use Rattle.http_request.specs.declared.kinds.Need.TheVariants.{More, Refused}
use Rattle.http_request.specs.declared.kinds.Framing.{Framing}
use Rattle.http_request.specs.declared.kinds.RequestReading.{RequestReading}
use Rattle.http_request.specs.declared.kinds.RequestReading.TheVariants.{More as ReadMore, Whole as ReadWhole, Refused as ReadRefused}
use Rattle.http_request.specs.declared.kinds.Framing.TheVariants.{Body, Refused as NoBody}
use Rattle.http_request.specs.declared.statuses.Status.TheVariants.{ContentTooLarge}
use Rattle.http_request.specs.Fields.{Header, framing_of, framing_of_codings, framing_of_length, ids_of, length_of, values_of}
use Rattle.http_request.specs.Heads.{Needs, NeedsBody, NeedsHead, HasHead, headers_of, front_of}
use Rattle.http_request.specs.Requests.{IsAwaited, IsReading, IsHeadReading, EditorRequest, IsRequest}

few : (fr : List ℕ) (hs : List HeaderSpan) (spans : RequestSpans) (h : RequestHead) → spans.headers ≤ length hs → length hs ≡ 32 → IsRequestAt fr hs spans h → length h.fields ≤ 32
few fr hs spans h within room at =
    let a : length (map (header_bytes fr) (take spans.headers hs)) ≡ length (map name_and_value h.fields) = ap length at.fields in
    let b : length (map (header_bytes fr) (take spans.headers hs)) ≡ length (take spans.headers hs) = length-map (take spans.headers hs) (header_bytes fr) in
    let d : length (map name_and_value h.fields) ≡ length h.fields = length-map h.fields name_and_value in
    let e : length (take spans.headers hs) ≡ spans.headers = length-take-le spans.headers hs within in
    omega (arith, a, b, d, e, within, room)

body_size : {a b : ℕ} → Body a ≡ Body b → a ≡ b
body_size h = cc h

size_tested : (n size : ℕ) (test : Bool) → nat_le n 83886080 ≡ test → Body size ≡ (if test then Body n else NoBody ContentTooLarge) → size ≤ 83886080
size_tested n size true le is = (let small : n ≤ 83886080 = grind (arith, nat_tests, le) in omega (arith, small, body_size is))
size_tested n size false le is = cc is

-- the head that was parsed stands at the front
pub has_head : (octets fr : List ℕ) (hs : List HeaderSpan) (spans : RequestSpans) → fr ≡ front_of octets → length hs ≡ 32
    → IsRequestWithin fr hs spans → (of : IsRequestOf fr hs spans) → HasHead octets of.0
has_head octets fr hs spans is room within of = record {
  rest = drop spans.len fr;
  reads = subst (λ x. ReadsRequest x of.0 (drop spans.len fr)) is of.1.reads;
  few = few fr hs spans of.0 within.section.count_fits room of.1;
}

-- its headers tell of this body
pub framing_same : (fr : List ℕ) (hs : List HeaderSpan) (spans : RequestSpans) (a : Framing) (of : IsRequestOf fr hs spans)
    → a ≡ framing_of (map (header_bytes fr) (take spans.headers hs)) → a ≡ framing_of (headers_of of.0)
framing_same fr hs spans a of is = is ∙ ap framing_of of.1.fields

pub needs_with_head : (octets fr : List ℕ) (hs : List HeaderSpan) (spans : RequestSpans) (a : Framing) (n : Need) → fr ≡ front_of octets → length hs ≡ 32
    → IsRequestWithin fr hs spans → IsRequestOf fr hs spans → a ≡ framing_of (map (header_bytes fr) (take spans.headers hs)) → NeedsBody octets spans.len a n → Needs octets n
needs_with_head octets fr hs spans a n is room within of is_framing body =
    inl (
      of.0,
      has_head octets fr hs spans is room within of,
      subst (λ x. NeedsBody octets x (framing_of (headers_of of.0)) n) of.1.len
          (subst (λ x. NeedsBody octets spans.len x n) (framing_same fr hs spans a of is_framing) body),
    )

size_of_length : (length : Option ℕ) (size : ℕ) → Body size ≡ framing_of_length length → size ≤ 83886080
size_of_length None size is = cc is
size_of_length (Some n) size is = size_tested n size (nat_le n 83886080) refl is

size_of_codings : (codings lengths : List (List ℕ)) (size : ℕ) → Body size ≡ framing_of_codings codings lengths → size ≤ 83886080
size_of_codings (value ∷ others) lengths size is = cc is
size_of_codings [] [] size is = omega (arith, body_size is)
size_of_codings [] (value ∷ []) size is = size_of_length (length_of value) size is
size_of_codings [] (value ∷ second ∷ others) size is = cc is

-- how many octets the body has at most
pub body_bound : (headers : List Header) (size : ℕ) → Body size ≡ framing_of headers → size ≤ 83886080
body_bound headers size is = size_of_codings (values_of (codes "transfer-encoding") headers) (values_of (codes "content-length") headers) size is

-- and head and body
pub whole_bound : (octets fr : List ℕ) (hs : List HeaderSpan) (spans : RequestSpans) (size : ℕ) → fr ≡ front_of octets → IsRequestWithin fr hs spans
    → Body size ≡ framing_of (map (header_bytes fr) (take spans.headers hs)) → spans.len + size ≤ 83894272
whole_bound octets fr hs spans size is within is_framing =
    let body : size ≤ 83886080 = body_bound (map (header_bytes fr) (take spans.headers hs)) size is_framing in
    let inside : spans.len ≤ length fr = within.section.len_fits in
    omega (arith, body, inside, ap length is, length-take 8192 octets)

-- how many octets head and body have
pub awaited_with_head : (octets fr : List ℕ) (hs : List HeaderSpan) (spans : RequestSpans) (size : ℕ) → fr ≡ front_of octets → length hs ≡ 32
    → IsRequestWithin fr hs spans → IsRequestOf fr hs spans → Body size ≡ framing_of (map (header_bytes fr) (take spans.headers hs)) → IsAwaited octets (spans.len + size)
awaited_with_head octets fr hs spans size is room within of is_framing =
    inl (of.0, has_head octets fr hs spans is room within of, (size, sym (framing_same fr hs spans (Body size) of is_framing), ap (λ n. n + size) of.1.len))

-- the request that the head and so many octets after it say
abbrev pub parsed : List ℕ → (fr : List ℕ) (hs : List HeaderSpan) (spans : RequestSpans) → IsRequestOf fr hs spans → ℕ → EditorRequest
parsed octets fr hs spans of size = record {
  method = of.0.method;
  target = of.0.target;
  ids = ids_of (headers_of of.0);
  body = take size (drop spans.len octets);
}

pub is_request : (octets fr : List ℕ) (hs : List HeaderSpan) (spans : RequestSpans) (size : ℕ) → fr ≡ front_of octets → length hs ≡ 32
    → IsRequestWithin fr hs spans → (of : IsRequestOf fr hs spans) → Body size ≡ framing_of (map (header_bytes fr) (take spans.headers hs))
    → spans.len + size ≤ length octets → IsRequest octets (parsed octets fr hs spans of size)
is_request octets fr hs spans size is room within of is_framing fits = record {
  head = of.0;
  has = has_head octets fr hs spans is room within of;
  size = size;
  framed = sym (framing_same fr hs spans (Body size) of is_framing);
  fits = subst (λ x. x + size ≤ length octets) of.1.len fits;
  says = ap (λ x. record { method = of.0.method; target = of.0.target; ids = ids_of (headers_of of.0); body = take size (drop x octets) }) of.1.len;
}

append_nil : (xs : List ℕ) → xs ++ [] ≡ xs
append_nil xs = search rules

needs_partial : (octets fr : List ℕ) (n : Need) → fr ≡ front_of octets → HasNoRequest fr → NeedsHead fr n → Needs octets n
needs_partial octets fr n is none h =
    inr (λ head has. none head has.rest (subst (λ x. ReadsRequest x head has.rest) (sym is) has.reads), subst (λ x. NeedsHead x n) is h)

no_head : (octets fr : List ℕ) → fr ≡ front_of octets → RequestOverflows 32 fr → (head : RequestHead) → ¬ HasHead octets head
no_head octets fr is over head has =
    let more : 32 < length head.fields = over [] head has.rest (subst (λ x. ReadsRequest x head has.rest) (sym (append_nil fr ∙ is)) has.reads) in
    absurd (omega (arith, more, has.few))

needs_error : (octets fr : List ℕ) (n : Need) → fr ≡ front_of octets → RequestOverflows 32 fr → NeedsHead fr n → Needs octets n
needs_error octets fr n is over h = inr (no_head octets fr is over, subst (λ x. NeedsHead x n) is h)

pub reading_partial : (octets fr : List ℕ) (r : RequestReading) → fr ≡ front_of octets → HasNoRequest fr → IsHeadReading fr r → IsReading octets r
reading_partial octets fr (ReadMore size) is none (h, zero) = (
  needs_partial octets fr More is none h,
  inr (λ head has. none head has.rest (subst (λ x. ReadsRequest x head has.rest) (sym is) has.reads), zero),
)
reading_partial octets fr (ReadRefused s) is none h = needs_partial octets fr (Refused s) is none h
reading_partial octets fr (ReadWhole told) is none h = absurd h

pub reading_error : (octets fr : List ℕ) (r : RequestReading) → fr ≡ front_of octets → RequestOverflows 32 fr → IsHeadReading fr r → IsReading octets r
reading_error octets fr (ReadMore size) is over (h, zero) = (needs_error octets fr More is over h, inr (no_head octets fr is over, zero))
reading_error octets fr (ReadRefused s) is over h = needs_error octets fr (Refused s) is over h
reading_error octets fr (ReadWhole told) is over h = absurd h

-- all that comes after a place
pub all_after : (xs : List ℕ) (from : ℕ) → take (length xs - from) (drop from xs) ≡ drop from xs
all_after xs from = subst (λ n. take n (drop from xs) ≡ drop from xs) (length-drop from xs) (take-length (drop from xs))
