-- One put after another, and what a front of the octets is a front of.
use Rattle.std.proofs.Common.{◌≡◌, ℕ, ◌<◌, ◌+◌, List, [], ◌++◌, arith, length, take, drop, get_or, refl, sym, ap, ◌∙◌, subst, length-append}
use Rattle.std.proofs.lemmas.List.{take-append-le, take-append-drop, at_drop_more}
use Rattle.std.proofs.lemmas.List.Concat.{flat_map-append}
use Rattle.std.specs.List.{flat_map}
use Rattle.std.proofs.Math.Seq.{take-append-add}
use Rattle.std.specs.Prelude.{Option, Result, Ok, Err, IsErr}
use Rattle.std.specs.Io.KnownBytes.{Appends}
use Rattle.std.proofs.KnownBytes.{Appends-trans, Appends-nil, Consumes-trans}
use Rattle.dict_proto.specs.Streams.{Stream, AppendsFront, HasFailed, PutsAll, PutsFront, Puts, GivesAll}

-- nothing was put
pub puts_none : (a : Stream) → PutsAll a a []
puts_none a = record { octets = Appends-nil a.octets; failures = refl }

-- a front of xs is a front of xs and what follows
pub appends_longer : (a b : Option (List ℕ)) (xs ys : List ℕ) → AppendsFront a b xs → AppendsFront a b (xs ++ ys)
appends_longer a b xs ys (k, within, h) = (k, omega (arith, length-append xs ys), subst (Appends a b) (sym (take-append-le k xs ys within)) h)

-- the whole of xs, and then a front of ys
pub appends_after : (a b c : Option (List ℕ)) (xs ys : List ℕ) → Appends a b xs → AppendsFront b c ys → AppendsFront a c (xs ++ ys)
appends_after a b c xs ys h (k, within, g) = (length xs + k, omega (arith, length-append xs ys), subst (Appends a c) (sym (take-append-add xs ys k)) (Appends-trans a b c xs (take k ys) h g))

-- xs was put, and then ys
pub all_after : (a b c : Stream) (xs ys : List ℕ) → PutsAll a b xs → PutsAll b c ys → PutsAll a c (xs ++ ys)
all_after a b c xs ys h g = record { octets = Appends-trans a.octets b.octets c.octets xs ys h.octets g.octets; failures = g.failures ∙ h.failures }

pub front_longer : (a b : Stream) (xs ys : List ℕ) → PutsFront a b xs → PutsFront a b (xs ++ ys)
front_longer a b xs ys h = record { octets = appends_longer a.octets b.octets xs ys h.octets; failures = h.failures }

-- xs was put, and then a front of ys
pub front_after : (a b c : Stream) (xs ys : List ℕ) → PutsAll a b xs → PutsFront b c ys → PutsFront a c (xs ++ ys)
front_after a b c xs ys h g = record { octets = appends_after a.octets b.octets c.octets xs ys h.octets g.octets; failures = subst (λ n. HasFailed n c.failures) h.failures g.failures }

-- xs was put, and then what a call puts
pub puts_after : {T E : Type 0} (r : Result T E) (a b c : Stream) (xs ys : List ℕ) → PutsAll a b xs → Puts r b c ys → Puts r a c (xs ++ ys)
puts_after (Ok t) a b c xs ys h p = all_after a b c xs ys h p
puts_after (Err e) a b c xs ys h p = front_after a b c xs ys h p

-- where a call failed, what was put is a front
pub puts_err : {T E : Type 0} (r : Result T E) (a b : Stream) (xs : List ℕ) → IsErr r → PutsFront a b xs → Puts r a b xs
puts_err (Ok t) a b xs e h = cc
puts_err (Err d) a b xs e h = h

-- xs was given, and then ys
pub given_after : (a b c : Stream) (xs ys : List ℕ) → GivesAll a b xs → GivesAll b c ys → GivesAll a c (xs ++ ys)
given_after a b c xs ys h g = record { octets = Consumes-trans a.octets b.octets c.octets xs ys h.octets g.octets; failures = g.failures ∙ h.failures }

-- the pieces before a place, the piece there and those after it
pub pieces_at : {X : Type 0} (f : X → List ℕ) (xs : List X) (i : ℕ) (d : X) → i < length xs → flat_map f xs ≡ flat_map f (take i xs) ++ (f (get_or xs i d) ++ flat_map f (drop (i + 1) xs))
pieces_at f xs i d lt = ap (flat_map f) (sym (take-append-drop i xs)) ∙ (flat_map-append f (take i xs) (drop i xs) ∙ ap (λ l. flat_map f (take i xs) ++ l) (at_drop_more (flat_map f) xs i d lt))
