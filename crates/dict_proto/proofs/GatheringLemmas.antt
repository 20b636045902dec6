-- One addition after another to what is gathered.
use Rattle.std.proofs.Common.{◌≡◌, ℕ, ◌+◌, ◌<◌, List, [], ◌∷◌, ◌++◌, length, take, drop, get_or, sym, ap, ◌∙◌, subst, append_assoc, append-nil, add-one}
use Rattle.std.specs.Prelude.{Result, Ok, Err, IsErr}
use Rattle.std.specs.List.{flat_map}
use Rattle.std.proofs.Math.Seq.{take-suc}
use Rattle.std.proofs.lemmas.List.Concat.{flat_map-append}
use Rattle.dict_proto.specs.Streams.{Stream, PutsAll, PutsFront, Puts}
use Rattle.dict_proto.specs.Gathering.{Joins, Gathers}
use Rattle.dict_proto.proofs.PutLemmas.{all_after, front_after, front_longer, puts_after, pieces_at}

-- octets that were put behind what was held
pub gathers_through : {T E : Type 0} (r : Result T E) (a b c : Stream) (held left bs : List ℕ) → PutsAll a b held → left ≡ [] → Puts r b c bs → Gathers r a c held left bs
gathers_through (Ok t) a b c held left bs h e p = (held ++ bs, all_after a b c held bs h p, sym (append-nil (held ++ bs)) ∙ ap (λ l. (held ++ bs) ++ l) (sym e))
gathers_through (Err d) a b c held left bs h e p = front_after a b c held bs h p

moved : (held mid left sent more xs ys : List ℕ) → held ++ xs ≡ sent ++ mid → mid ++ ys ≡ more ++ left → held ++ (xs ++ ys) ≡ (sent ++ more) ++ left
moved held mid left sent more xs ys e f =
    sym (append_assoc held xs ys) ∙ (ap (λ l. l ++ ys) e ∙ (append_assoc sent mid ys ∙ (ap (λ l. sent ++ l) f ∙ sym (append_assoc sent more left))))

-- xs was added, and then ys
pub joins_after : (a b c : Stream) (held mid left xs ys : List ℕ) → Joins a b held mid xs → Joins b c mid left ys → Joins a c held left (xs ++ ys)
joins_after a b c held mid left xs ys (sent, h, e) (more, g, f) = (sent ++ more, all_after a b c sent more h g, moved held mid left sent more xs ys e f)

-- xs was added, and then a front was put
pub front_joined : (a b c : Stream) (held mid xs ys : List ℕ) → Joins a b held mid xs → PutsFront b c (mid ++ ys) → PutsFront a c (held ++ (xs ++ ys))
front_joined a b c held mid xs ys (sent, h, e) g =
    subst (PutsFront a c) (sym (sym (append_assoc held xs ys) ∙ (ap (λ l. l ++ ys) e ∙ append_assoc sent mid ys))) (front_after a b c sent (mid ++ ys) h g)

-- a front of xs behind what was held is one of xs and what follows
pub front_more : (a b : Stream) (held xs ys : List ℕ) → PutsFront a b (held ++ xs) → PutsFront a b (held ++ (xs ++ ys))
front_more a b held xs ys h = subst (PutsFront a b) (append_assoc held xs ys) (front_longer a b (held ++ xs) ys h)

-- xs was added, and then what a call adds
pub gathers_after : {T E : Type 0} (r : Result T E) (a b c : Stream) (held mid left xs ys : List ℕ) → Joins a b held mid xs → Gathers r b c mid left ys → Gathers r a c held left (xs ++ ys)
gathers_after (Ok t) a b c held mid left xs ys h p = joins_after a b c held mid left xs ys h p
gathers_after (Err d) a b c held mid left xs ys h p = front_joined a b c held mid xs ys h p

-- where a call failed, a front was put
pub gathers_err : {T E : Type 0} (r : Result T E) (a b : Stream) (held left xs : List ℕ) → IsErr r → PutsFront a b (held ++ xs) → Gathers r a b held left xs
gathers_err (Ok t) a b held left xs e h = cc
gathers_err (Err d) a b held left xs e h = h

-- what was added to nothing is put
pub puts_gathered : {T E : Type 0} (r : Result T E) (a b c : Stream) (held left xs : List ℕ) → held ≡ [] → Joins a b held left xs → Puts r b c left → Puts r a c xs
puts_gathered r a b c held left xs e (sent, h, f) p = subst (Puts r a c) (sym (sym (ap (λ l. l ++ xs) e) ∙ f)) (puts_after r a b c sent left h p)

-- a front of what was added to nothing
pub front_gathered : (a b : Stream) (held xs : List ℕ) → held ≡ [] → PutsFront a b (held ++ xs) → PutsFront a b xs
front_gathered a b held xs e h = subst (PutsFront a b) (ap (λ l. l ++ xs) e) h

pieces_to : {X : Type 0} (f : X → List ℕ) (xs : List X) (i : ℕ) (d : X) → i < length xs → flat_map f (take (i + 1) xs) ≡ flat_map f (take i xs) ++ f (get_or xs i d)
pieces_to f xs i d lt =
    ap (flat_map f) (ap (λ n. take n xs) (add-one i) ∙ take-suc xs i d lt) ∙ (flat_map-append f (take i xs) (get_or xs i d ∷ []) ∙ ap (λ l. flat_map f (take i xs) ++ l) (append-nil (f (get_or xs i d))))

-- one more piece was added
pub piece_joined : {X : Type 0} (f : X → List ℕ) (xs : List X) (i : ℕ) (d : X) (a b c : Stream) (held mid left : List ℕ) → i < length xs
    → Joins a b held mid (flat_map f (take i xs)) → Joins b c mid left (f (get_or xs i d)) → Joins a c held left (flat_map f (take (i + 1) xs))
piece_joined f xs i d a b c held mid left lt h g = subst (Joins a c held left) (sym (pieces_to f xs i d lt)) (joins_after a b c held mid left (flat_map f (take i xs)) (f (get_or xs i d)) h g)

-- the next piece broke off
pub piece_broken : {X T E : Type 0} (r : Result T E) (f : X → List ℕ) (xs : List X) (i : ℕ) (d : X) (a b c : Stream) (held mid left : List ℕ) → i < length xs → IsErr r
    → Joins a b held mid (flat_map f (take i xs)) → PutsFront b c (mid ++ f (get_or xs i d)) → Gathers r a c held left (flat_map f xs)
piece_broken r f xs i d a b c held mid left lt e h g =
    subst (Gathers r a c held left) (sym (pieces_at f xs i d lt))
    (gathers_err r a c held left _ e (front_joined a b c held mid (flat_map f (take i xs)) (f (get_or xs i d) ++ flat_map f (drop (i + 1) xs)) h (front_more b c mid (f (get_or xs i d)) (flat_map f (drop (i + 1) xs)) g)))
