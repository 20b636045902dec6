-- The lines of a stream, as a relation and as a function.
use Rattle.std.proofs.Common.{◌≡◌, ◌≢◌, ℕ, zero, suc, ◌<◌, ◌+◌, ◌-◌, List, [], ◌∷◌, ◌++◌, arith, length, take, drop, get_or, sym, ap, ◌∙◌, subst, refl, append_assoc, append-nil, Bool, true, false}
use Rattle.std.proofs.lemmas.Bool.Decides.{nat_tests}
use Rattle.std.proofs.lemmas.List.{take_more, take_all}
use Rattle.std.specs.Prelude.{slice_index}
use Rattle.std.specs.List.{flat_map, AllByRecursion}
use Rattle.std.proofs.lemmas.List.Concat.{flat_map-append}
use Rattle.dict_session.specs.Lines.{HasNoLineEnd, AreLines, ends_line, put_before, cut}
use Rattle.dict_proto.specs.Text.{crlf}

-- each line of two lists
all_joined : (P : List ℕ → Type 0) (ls ms : List (List ℕ)) → AllByRecursion P ls → AllByRecursion P ms → AllByRecursion P (ls ++ ms)
all_joined P [] ms h g = g
all_joined P (l ∷ ls) ms h g = (h.0, all_joined P ls ms h.1 g)

-- lines of a front, and then those of its rest and what follows
pub joined : (b p : List ℕ) (ls ms : List (List ℕ)) (r s : List ℕ) → AreLines b ls r → AreLines (r ++ p) ms s → AreLines (b ++ p) (ls ++ ms) s
joined b p ls ms r s h g = record {
  whole = ap (λ x. x ++ p) h.whole ∙ (append_assoc (flat_map (λ l. l ++ crlf) ls) r p ∙ (ap (λ x. flat_map (λ l. l ++ crlf) ls ++ x) g.whole
      ∙ (sym (append_assoc (flat_map (λ l. l ++ crlf) ls) (flat_map (λ l. l ++ crlf) ms) s) ∙ ap (λ x. x ++ s) (sym (flat_map-append (λ l. l ++ crlf) ls ms)))));
  each = all_joined HasNoLineEnd ls ms h.each g.each;
  unfinished = g.unfinished;
}

-- without its first octet it has no line end either
no_end_tail : (x : ℕ) (l : List ℕ) → HasNoLineEnd (x ∷ l) → HasNoLineEnd l
no_end_tail x l h i e = h (suc i) e

-- an octet and what has no line end begin with none
no_end_head : (x : ℕ) (l : List ℕ) → HasNoLineEnd (x ∷ l) → ends_line x l ≡ false
no_end_head x l h = grind (arith, nat_tests, h 0)

cut_rest : (r : List ℕ) → HasNoLineEnd r → cut r ≡ record { lines = []; rest = r }
cut_rest [] h = refl
cut_rest (x ∷ r) h = ap (λ c. put_before x c.lines c.rest) (cut_rest r (no_end_tail x r h)) ∙ rw (no_end_head x r h) refl

cut_line : (l s : List ℕ) (ls : List (List ℕ)) (r : List ℕ) → HasNoLineEnd l → cut s ≡ record { lines = [] ∷ ls; rest = r } → cut (l ++ s) ≡ record { lines = l ∷ ls; rest = r }
cut_line [] s ls r h e = e
cut_line (x ∷ l) s ls r h e = ap (λ c. put_before x c.lines c.rest) (cut_line l s ls r (no_end_tail x l h) e) ∙ rw (no_end_head x l h) refl

cut_end : (t : List ℕ) (ls : List (List ℕ)) (r : List ℕ) → cut t ≡ record { lines = ls; rest = r } → cut (13 ∷ 10 ∷ t) ≡ record { lines = [] ∷ ls; rest = r }
cut_end t [] r e = ap (λ c. put_before 13 (put_before 10 c.lines c.rest).lines (put_before 10 c.lines c.rest).rest) e
cut_end t (l ∷ ls) r e = ap (λ c. put_before 13 (put_before 10 c.lines c.rest).lines (put_before 10 c.lines c.rest).rest) e

-- no other lines are
pub cut_is : (b : List ℕ) (ls : List (List ℕ)) (r : List ℕ) → AreLines b ls r → cut b ≡ record { lines = ls; rest = r }
cut_is b [] r h = ap cut h.whole ∙ cut_rest r h.unfinished
cut_is b (l ∷ ls) r h =
    let more = flat_map (λ l. l ++ crlf) ls ++ r in
    let regrouped : flat_map (λ l. l ++ crlf) (l ∷ ls) ++ r ≡ l ++ (13 ∷ 10 ∷ more) = append_assoc (l ++ crlf) (flat_map (λ l. l ++ crlf) ls) r ∙ append_assoc l crlf more in
    let rest_is : cut more ≡ record { lines = ls; rest = r } = cut_is more ls r (record { whole = refl; each = h.each.1; unfinished = h.unfinished }) in
    ap cut (h.whole ∙ regrouped) ∙ cut_line l (13 ∷ 10 ∷ more) ls r h.each.0 (cut_end more ls r rest_is)

-- an octet before what has no line end, where the two begin with none
no_end_cons : (x : ℕ) (l : List ℕ) → ends_line x l ≡ false → HasNoLineEnd l → HasNoLineEnd (x ∷ l)
no_end_cons x l e h zero is = λ ten. grind (arith, nat_tests, e, is, ten)
no_end_cons x l e h (suc i) is = h i is

no_end_drop : (l : List ℕ) → HasNoLineEnd l → HasNoLineEnd (drop 1 l)
no_end_drop [] h = h
no_end_drop (x ∷ l) h = no_end_tail x l h

-- what begins with 10 is 10 and the rest
first_ten : (l : List ℕ) → slice_index l 0 ≡ 10 → l ≡ 10 ∷ drop 1 l
first_ten [] e = absurd (omega (arith, e))
first_ten (x ∷ l) e = ap (λ y. y ∷ l) e

-- what a line's end and x make of the first line
head_is : (x : ℕ) (l : List ℕ) → ends_line x l ≡ true → x ∷ l ≡ 13 ∷ 10 ∷ drop 1 l
head_is x l e =
    let cr : x ≡ 13 = grind (arith, nat_tests, e) in
    let lf : slice_index l 0 ≡ 10 = grind (arith, nat_tests, e) in
    ap (λ y. y ∷ l) cr ∙ ap (λ m. 13 ∷ m) (first_ten l lf)

no_end_nil : HasNoLineEnd []
no_end_nil i e = absurd (omega (arith, e))

are_before_rest : (x : ℕ) (b r : List ℕ) (t : Bool) → ends_line x r ≡ t → AreLines b [] r → AreLines (x ∷ b) (put_before x [] r).lines (put_before x [] r).rest
are_before_rest x b r true e h = rw e (record { whole = ap (λ y. x ∷ y) h.whole ∙ head_is x r e; each = (no_end_nil, tt); unfinished = no_end_drop r h.unfinished })
are_before_rest x b r false e h = rw e (record { whole = ap (λ y. x ∷ y) h.whole; each = tt; unfinished = no_end_cons x r e h.unfinished })

are_before_line : (x : ℕ) (b l : List ℕ) (ls : List (List ℕ)) (r : List ℕ) (t : Bool) → ends_line x l ≡ t → AreLines b (l ∷ ls) r → AreLines (x ∷ b) (put_before x (l ∷ ls) r).lines (put_before x (l ∷ ls) r).rest
are_before_line x b l ls r true e h = rw e (record {
  whole = ap (λ y. x ∷ y) h.whole ∙ ap (λ y. y ++ crlf ++ flat_map (λ l. l ++ crlf) ls ++ r) (head_is x l e);
  each = (no_end_nil, (no_end_drop l h.each.0, h.each.1));
  unfinished = h.unfinished;
})
are_before_line x b l ls r false e h = rw e (record { whole = ap (λ y. x ∷ y) h.whole; each = (no_end_cons x l e h.each.0, h.each.1); unfinished = h.unfinished })

are_put_before : (x : ℕ) (b : List ℕ) (ls : List (List ℕ)) (r : List ℕ) → AreLines b ls r → AreLines (x ∷ b) (put_before x ls r).lines (put_before x ls r).rest
are_put_before x b [] r h = are_before_rest x b r (ends_line x r) refl h
are_put_before x b (l ∷ ls) r h = are_before_line x b l ls r (ends_line x l) refl h

-- these lines are
pub cut_are : (b : List ℕ) → AreLines b (cut b).lines (cut b).rest
cut_are [] = record { whole = refl; each = tt; unfinished = λ i e. absurd (omega (arith, e)) }
cut_are (x ∷ b) = are_put_before x b (cut b).lines (cut b).rest (cut_are b)

-- the cut of a front and then what follows it
pub cut_append : (b p : List ℕ) → cut (b ++ p) ≡ record { lines = (cut b).lines ++ (cut ((cut b).rest ++ p)).lines; rest = (cut ((cut b).rest ++ p)).rest }
cut_append b p = cut_is (b ++ p) _ _ (joined b p _ _ _ _ (cut_are b) (cut_are ((cut b).rest ++ p)))

-- a front of what has no line end has none
no_end_front : (l m : List ℕ) → HasNoLineEnd (l ++ m) → HasNoLineEnd l
no_end_front [] m h i is = absurd (omega (arith, is))
no_end_front (x ∷ []) m h zero is = λ ten. absurd (omega (arith, ten))
no_end_front (x ∷ y ∷ l) m h zero is = h zero is
no_end_front (x ∷ l) m h (suc i) is = no_end_front l m (no_end_tail x (l ++ m) h) i is

-- the last octet of a list apart
last_apart : (r : List ℕ) (z : ℕ) → 0 < length r → slice_index r (length r - 1) ≡ z → r ≡ take (length r - 1) r ++ z ∷ []
last_apart r z some e =
    let i = length r - 1 in
    let lt : i < length r = omega arith in
    let all : i + 1 ≡ length r = omega arith in
    sym (take_all (length r) r (omega arith)) ∙ (ap (λ n. take n r) (sym all) ∙ (take_more r i 0 lt ∙ ap (λ y. take i r ++ y ∷ []) e))

some_octets : (r : List ℕ) (z : ℕ) → slice_index r (length r - 1) ≡ z → 0 < z → 0 < length r
some_octets [] z e lt = omega (arith, e)
some_octets (x ∷ r) z e lt = omega arith

-- at an LF after a CR a line ends
pub ends_at : (r : List ℕ) → HasNoLineEnd r → slice_index r (length r - 1) ≡ 13 → AreLines (r ++ 10 ∷ []) (take (length r - 1) r ∷ []) []
ends_at r h e =
    let front = take (length r - 1) r in
    let apart : r ≡ front ++ 13 ∷ [] = last_apart r 13 (some_octets r 13 e (omega arith)) e in
    record {
      whole = ap (λ l. l ++ 10 ∷ []) apart ∙ (append_assoc front (13 ∷ []) (10 ∷ []) ∙ (sym (append-nil (front ++ crlf)) ∙ sym (append-nil ((front ++ crlf) ++ []))));
      each = (no_end_front front (13 ∷ []) (subst HasNoLineEnd apart h), tt);
      unfinished = no_end_nil;
    }

last_tail : (y z : ℕ) (r : List ℕ) → slice_index (y ∷ z ∷ r) (length (y ∷ z ∷ r) - 1) ≡ slice_index (z ∷ r) (length (z ∷ r) - 1)
last_tail y z r = let e : length (y ∷ z ∷ r) - 1 ≡ suc (length (z ∷ r) - 1) = omega arith in ap (λ k. get_or (y ∷ z ∷ r) k 0) e

-- any other octet leaves the line unfinished
pub goes_on : (r : List ℕ) (x : ℕ) → HasNoLineEnd r → (x ≡ 10 → slice_index r (length r - 1) ≢ 13) → HasNoLineEnd (r ++ x ∷ [])
goes_on [] x h e zero is = λ ten. absurd (omega (arith, ten))
goes_on [] x h e (suc i) is = absurd (omega (arith, is))
goes_on (y ∷ []) x h e zero is = λ ten. e ten is
goes_on (y ∷ z ∷ r) x h e zero is = h zero is
goes_on (y ∷ []) x h e (suc i) is = goes_on [] x no_end_nil (λ ten cr. absurd (omega (arith, cr))) i is
goes_on (y ∷ z ∷ r) x h e (suc i) is = goes_on (z ∷ r) x (no_end_tail y (z ∷ r) h) (λ ten cr. e ten (last_tail y z r ∙ cr)) i is
