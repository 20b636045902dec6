-- Octets have one answer, which stays.
use Rattle.std.proofs.Common.{◌≡◌, ◌≤◌, ◌<◌, ◌+◌, ◌++◌, drop, inl, inr, ℕ, zero, suc, List, [], ◌∷◌, length, take, refl, sym, ap, ◌∙◌, subst, arith}
use Rattle.std.proofs.lemmas.List.{length-append, length-drop, take-append-le, drop-append-le}
use Rattle.httparse.specs.Grammar.{RequestHead, ReadsRequest, print_request}
use Rattle.httparse.proofs.GrammarLemmas.{request_unique, ReadsRequest-append}
use Rattle.http_request.specs.declared.kinds.Need.{Need}
use Rattle.http_request.specs.declared.kinds.Need.TheVariants.{More, Whole}
use Rattle.http_request.specs.declared.kinds.Framing.{Framing}
use Rattle.http_request.specs.declared.kinds.Framing.TheVariants.{Body, Refused as NoBody}
use Rattle.http_request.specs.Fields.{framing_of, ids_of}
use Rattle.http_request.specs.Requests.{IsAwaited, EditorRequest, IsRequest, request_of}
use Rattle.http_request.specs.Heads.{Needs, NeedsBody, NeedsHead, HasHead, headers_of, front_of}

body_one : (x : List ℕ) (len : ℕ) (k : Framing) (a b : Need) → NeedsBody x len k a → NeedsBody x len k b → a ≡ b
body_one x len (NoBody s) a b p q = p ∙ sym q
body_one x len (Body n) a b (inl p) (inl q) = p.1 ∙ sym q.1
body_one x len (Body n) a b (inr p) (inr q) = p.1 ∙ sym q.1
body_one x len (Body n) a b (inl p) (inr q) = absurd (omega (arith, p.0, q.0))
body_one x len (Body n) a b (inr p) (inl q) = absurd (omega (arith, p.0, q.0))

head_one : (x : List ℕ) (a b : Need) → NeedsHead x a → NeedsHead x b → a ≡ b
head_one x a b (inl p) (inl q) = p.1 ∙ sym q.1
head_one x a b (inr p) (inr q) = p.1 ∙ sym q.1
head_one x a b (inl p) (inr q) = absurd (q.0 p.0)
head_one x a b (inr p) (inl q) = absurd (p.0 q.0)

pub one : (x : List ℕ) (a b : Need) → Needs x a → Needs x b → a ≡ b
one x a b (inl p) (inl q) =
    let same : p.0 ≡ q.0 = (request_unique (front_of x) p.0 q.0 p.1.rest q.1.rest p.1.reads q.1.reads).0 in
    body_one x (length (print_request q.0)) (framing_of (headers_of q.0)) a b (subst (λ h. NeedsBody x (length (print_request h)) (framing_of (headers_of h)) a) same p.2) q.2
one x a b (inr p) (inr q) = head_one (front_of x) a b p.1 q.1
one x a b (inl p) (inr q) = absurd (q.0 p.0 p.1)
one x a b (inr p) (inl q) = absurd (p.0 q.0 q.1)

front_more : (n : ℕ) (x y : List ℕ) → (more : List ℕ) × (take n (x ++ y) ≡ take n x ++ more)
front_more zero x y = ([], refl)
front_more (suc n) [] y = (take (suc n) y, refl)
front_more (suc n) (b ∷ x) y = let r = front_more n x y in (r.0, ap (λ t. b ∷ t) r.1)

body_stays : (x y : List ℕ) (len n : ℕ) (k : Framing) → NeedsBody x len k (Whole n) → NeedsBody (x ++ y) len k (Whole n)
body_stays x y len n (NoBody s) p = p
body_stays x y len n (Body m) (inl p) = absurd (cc p.1)
body_stays x y len n (Body m) (inr p) = inr (omega (arith, p.0, length-append x y), p.1)

head_never : (x : List ℕ) (n : ℕ) → NeedsHead x (Whole n) → ⊥
head_never x n (inl p) = cc p.1
head_never x n (inr p) = cc p.1

pub stays : (x y : List ℕ) (n : ℕ) → Needs x (Whole n) → Needs (x ++ y) (Whole n)
stays x y n (inr p) = absurd (head_never (front_of x) n p.1)
stays x y n (inl p) =
    let f = front_more 8192 x y in
    inl (
      p.0,
      record {
        rest = p.1.rest ++ f.0;
        reads = subst (λ t. ReadsRequest t p.0 (p.1.rest ++ f.0)) (sym f.1) (ReadsRequest-append (front_of x) p.0 p.1.rest f.0 p.1.reads);
        few = p.1.few;
      },
      body_stays x y (length (print_request p.0)) n (framing_of (headers_of p.0)) p.2,
    )

-- ---- whole requests

body_size : {a b : ℕ} → Body a ≡ Body b → a ≡ b
body_size h = cc h

pub one_request : (x : List ℕ) (a b : EditorRequest) → IsRequest x a → IsRequest x b → a ≡ b
one_request x a b p q =
    let same : p.head ≡ q.head = (request_unique (front_of x) p.head q.head p.has.rest q.has.rest p.has.reads q.has.reads).0 in
    let sizes : p.size ≡ q.size = body_size (sym p.framed ∙ (ap (λ h. framing_of (headers_of h)) same ∙ q.framed)) in
    p.says ∙ (ap (λ h. request_of x h p.size) same ∙ (ap (λ n. request_of x q.head n) sizes ∙ sym q.says))

pub head_stays : (x y : List ℕ) (h : RequestHead) → HasHead x h → HasHead (x ++ y) h
head_stays x y h has =
    let f = front_more 8192 x y in
    record {
      rest = has.rest ++ f.0;
      reads = subst (λ t. ReadsRequest t h (has.rest ++ f.0)) (sym f.1) (ReadsRequest-append (front_of x) h has.rest f.0 has.reads);
      few = has.few;
    }

part_stays : (x y : List ℕ) (from size : ℕ) → from + size ≤ length x → take size (drop from x) ≡ take size (drop from (x ++ y))
part_stays x y from size fits =
    let a : drop from (x ++ y) ≡ drop from x ++ y = drop-append-le from x y (omega (arith, fits)) in
    let long : size ≤ length (drop from x) = omega (arith, fits, length-drop from x) in
    let b : take size (drop from x ++ y) ≡ take size (drop from x) = take-append-le size (drop from x) y long in
    sym (ap (take size) a ∙ b)

pub request_stays : (x y : List ℕ) (r : EditorRequest) → IsRequest x r → IsRequest (x ++ y) r
request_stays x y r p = record {
  head = p.head;
  has = head_stays x y p.head p.has;
  size = p.size;
  framed = p.framed;
  fits = omega (arith, p.fits, length-append x y);
  says = p.says ∙ ap (λ t. record { method = p.head.method; target = p.head.target; ids = ids_of (headers_of p.head); body = t }) (part_stays x y (length (print_request p.head)) p.size p.fits);
}

-- until so many octets have come more are needed, whatever they are
pub awaits : (x y : List ℕ) (size : ℕ) → IsAwaited x size → length (x ++ y) < size → Needs (x ++ y) More
awaits x y size (inl (h, has, (body, framed, is))) fewer =
    inl (h, head_stays x y h has, subst (λ k. NeedsBody (x ++ y) (length (print_request h)) k More) (sym framed) (inl (omega (arith, is, fewer), refl)))
awaits x y size (inr (none, is)) fewer = absurd (omega (arith, is, fewer))
