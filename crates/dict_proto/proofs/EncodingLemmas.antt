-- The words of a text are the same whether it is read by characters or by octets.
use Rattle.std.proofs.Common.{◌≡◌, ℕ, suc, ◌<◌, ◌≤◌, List, [], ◌∷◌, ◌++◌, Bool, true, false, ◌&&◌, ◌||◌, arith, length, map, get_or, refl, sym, ap, ◌∙◌, subst, append-nil}
use Rattle.std.specs.Prelude.{Option, None, Some, nat_lt, if◌then◌else◌, ◌==◌, ⊤}
use Rattle.std.specs.Option.{option_map}
use Rattle.std.specs.List.{AllByRecursion}
use Rattle.std.specs.Char.{encode_utf8}
use Rattle.std.specs.Str.{IsUtf8, all_scalars, encode_utf8_all, chars}
use Rattle.std.proofs.lemmas.Bool.Decides.{nat_tests}
use Rattle.std.proofs.lemmas.Str.{encode_ascii, inside_one, length-encode, len_utf8_bounds, encodes-chars, scalars-chars}
use Rattle.dict_text.specs.Characters.{is_blank, is_control}
use Rattle.dict_proto.specs.Words.{is_atom_character, is_quoting, is_quote_sign}
use Rattle.dict_proto.specs.LineWords.{Place, line_words, words_from, with_character, next_place, at_end, between, within, in_string, escaped, escaped_in, stuck, onto_first, end_before}
use Rattle.dict_proto.proofs.LineWordsLemmas.{within-atom, between-atom, both_true, onto_all, onto_all-word}

-- ---- octets past ASCII

ArePast : List ℕ → Type 0
ArePast bs = AllByRecursion (λ b. 128 ≤ b) bs

all_from : (bs : List ℕ) → ((k : ℕ) → k < length bs → 128 ≤ get_or bs k 0) → ArePast bs
unfolding ArePast
all_from [] f = tt
all_from (b ∷ bs) f = (f 0 (omega arith), all_from bs (λ k lt. f (suc k) (omega arith)))

past_or_not : (x c : ℕ) (test : Bool) → nat_lt x 128 ≡ test → (x < 128 → c ≡ x) → 128 ≤ c → 128 ≤ x
past_or_not x c true e f h = let lt : x < 128 = grind (arith, nat_tests, e) in omega (arith, f lt)
past_or_not x c false e f h = grind (arith, nat_tests, e)

-- a character past ASCII has no ASCII octet
encode-past : (c : ℕ) → 128 ≤ c → ArePast (encode_utf8 c)
encode-past c h = all_from (encode_utf8 c) (λ k lt. past_or_not _ c _ refl (inside_one c [] (encode_utf8 c) k (sym (append-nil (encode_utf8 c))) lt) h)

not_equal : (b n : ℕ) → n < 128 → 128 ≤ b → (b == n) ≡ false
not_equal b n lt h = grind (arith, nat_tests, lt, h)

no_control : (b : ℕ) → 128 ≤ b → is_control b ≡ false
no_control b h = let small : nat_lt b 32 ≡ false = grind (arith, nat_tests, h) in rw (small, not_equal b 127 (omega arith) h) refl

past-atom : (b : ℕ) → 128 ≤ b → is_atom_character b ≡ true
past-atom b h =
    rw (not_equal b 32 (omega arith) h, not_equal b 9 (omega arith) h, no_control b h, not_equal b 34 (omega arith) h, not_equal b 39 (omega arith) h, not_equal b 92 (omega arith) h) refl

-- ---- one character of each kind

-- the quote sign of a string is ASCII
IsLow : Place → Type 0
IsLow between = ⊤
IsLow within = ⊤
IsLow (in_string quote) = quote < 128
IsLow escaped = ⊤
IsLow (escaped_in quote) = quote < 128
IsLow stuck = ⊤

-- the place after a character past ASCII
goes_on : Place → Place
goes_on between = within
goes_on within = within
goes_on (in_string quote) = in_string quote
goes_on escaped = within
goes_on (escaped_in quote) = in_string quote
goes_on stuck = stuck

goes_on-low : (place : Place) → IsLow place → IsLow (goes_on place)
unfolding IsLow goes_on
goes_on-low between h = tt
goes_on-low within h = tt
goes_on-low (in_string quote) h = h
goes_on-low escaped h = tt
goes_on-low (escaped_in quote) h = h
goes_on-low stuck h = tt

goes_on-twice : (place : Place) → goes_on (goes_on place) ≡ goes_on place
unfolding goes_on
goes_on-twice between = refl
goes_on-twice within = refl
goes_on-twice (in_string quote) = refl
goes_on-twice escaped = refl
goes_on-twice (escaped_in quote) = refl
goes_on-twice stuck = refl

pub words_from-stuck : (cs : List ℕ) → words_from stuck cs ≡ None
words_from-stuck [] = refl
words_from-stuck (c ∷ cs) = refl

words_from-past : (place : Place) (b : ℕ) (bs : List ℕ) → IsLow place → 128 ≤ b → words_from place (b ∷ bs) ≡ onto_first b (words_from (goes_on place) bs)
unfolding IsLow goes_on
words_from-past between b bs low h = between-atom b bs (past-atom b h) ∙ within-atom b bs (past-atom b h)
words_from-past within b bs low h = within-atom b bs (past-atom b h)
words_from-past (in_string quote) b bs low h = rw (no_control b h, not_equal b quote low h, not_equal b 92 (omega arith) h) refl
words_from-past escaped b bs low h = rw (no_control b h) refl
words_from-past (escaped_in quote) b bs low h = rw (no_control b h) refl
words_from-past stuck b bs low h = sym (ap (onto_first b) (words_from-stuck bs))

after_low : (a b d e : Bool) (c : ℕ) → (d ≡ true → c < 128) → IsLow (if a then between else (if b then stuck else (if d then in_string c else (if e then escaped else within))))
unfolding IsLow
after_low true b d e c h = tt
after_low false true d e c h = tt
after_low false false true e c h = h refl
after_low false false false true c h = tt
after_low false false false false c h = tt

quote_low : (c : ℕ) → is_quote_sign c ≡ true → c < 128
quote_low c e = grind (arith, nat_tests, e)

string_low : (a b d : Bool) (quote : ℕ) → quote < 128 → IsLow (if a then stuck else (if b then within else (if d then escaped_in quote else in_string quote)))
unfolding IsLow
string_low true b d quote h = tt
string_low false true d quote h = tt
string_low false false true quote h = h
string_low false false false quote h = h

one_low : (a : Bool) (place : Place) → IsLow place → IsLow (if a then stuck else place)
unfolding IsLow
one_low true place h = tt
one_low false place h = h

next_place-low : (place : Place) (c : ℕ) → IsLow place → IsLow (next_place place c)
unfolding IsLow
next_place-low between c h = after_low _ _ _ _ c (quote_low c)
next_place-low within c h = after_low _ _ _ _ c (quote_low c)
next_place-low (in_string quote) c h = string_low _ _ _ quote h
next_place-low escaped c h = one_low _ within tt
next_place-low (escaped_in quote) c h = one_low _ (in_string quote) h
next_place-low stuck c h = tt

-- ---- a character's octets, one after the other

pub onto_all-none : (bs : List ℕ) → onto_all bs None ≡ None
onto_all-none [] = refl
onto_all-none (b ∷ bs) = ap (onto_first b) (onto_all-none bs)

onto_first-empty : (b : ℕ) (bs : List ℕ) → onto_all (b ∷ bs) (Some []) ≡ None
onto_first-empty b [] = refl
onto_first-empty b (c ∷ bs) = ap (onto_first b) (onto_first-empty c bs)

onto_all-empty : (bs : List ℕ) → 0 < length bs → onto_all bs (Some []) ≡ None
onto_all-empty [] lt = absurd (omega arith)
onto_all-empty (b ∷ bs) lt = onto_first-empty b bs

-- octets past ASCII at a place that stays
past-run : (bs rest : List ℕ) (place : Place) → IsLow place → goes_on place ≡ place → ArePast bs → words_from place (bs ++ rest) ≡ onto_all bs (words_from place rest)
unfolding ArePast
past-run [] rest place low stays h = refl
past-run (b ∷ bs) rest place low stays h =
    words_from-past place b (bs ++ rest) low h.0 ∙ ap (onto_first b) (ap (λ p. words_from p (bs ++ rest)) stays ∙ past-run bs rest place low stays h.1)

past-character : (bs rest : List ℕ) (place : Place) → IsLow place → 0 < length bs → ArePast bs → words_from place (bs ++ rest) ≡ onto_all bs (words_from (goes_on place) rest)
unfolding ArePast
past-character [] rest place low some h = absurd (omega arith)
past-character (b ∷ bs) rest place low some h =
    words_from-past place b (bs ++ rest) low h.0 ∙ ap (onto_first b) (past-run bs rest (goes_on place) (goes_on-low place low) (goes_on-twice place) h.1)

-- ---- words of characters, as octets

as_octets : Option (List (List ℕ)) → Option (List (List ℕ))
as_octets r = option_map (map encode_utf8_all) r

encode-some : (c : ℕ) → 0 < length (encode_utf8 c)
encode-some c = omega (arith, length-encode c, (len_utf8_bounds c).0)

as_octets-onto : (c : ℕ) (r : Option (List (List ℕ))) → onto_all (encode_utf8 c) (as_octets r) ≡ as_octets (onto_first c r)
unfolding as_octets
as_octets-onto c None = onto_all-none (encode_utf8 c)
as_octets-onto c (Some []) = onto_all-empty (encode_utf8 c) (encode-some c)
as_octets-onto c (Some (word ∷ words)) = onto_all-word (encode_utf8 c) (encode_utf8_all word) (map encode_utf8_all words)

as_octets-ascii : (c : ℕ) (r : Option (List (List ℕ))) → c < 128 → onto_first c (as_octets r) ≡ as_octets (onto_first c r)
as_octets-ascii c r lt = ap (λ bs. onto_all bs (as_octets r)) (sym (encode_ascii c lt)) ∙ as_octets-onto c r

as_octets-end : (r : Option (List (List ℕ))) → end_before (as_octets r) ≡ as_octets (end_before r)
unfolding as_octets
as_octets-end None = refl
as_octets-end (Some words) = refl

as_octets-three : (a b : Bool) (x y z x' y' z' : Option (List (List ℕ))) → x' ≡ as_octets x → y' ≡ as_octets y → z' ≡ as_octets z
    → (if a then x' else (if b then y' else z')) ≡ as_octets (if a then x else (if b then y else z))
as_octets-three true b x y z x' y' z' e f g = e
as_octets-three false true x y z x' y' z' e f g = f
as_octets-three false false x y z x' y' z' e f g = g

as_octets-two : (a : Bool) (x y x' y' : Option (List (List ℕ))) → x' ≡ as_octets x → y' ≡ as_octets y → (if a then x' else y') ≡ as_octets (if a then x else y)
as_octets-two true x y x' y' e f = e
as_octets-two false x y x' y' e f = f

as_octets-none : None ≡ as_octets None
unfolding as_octets
as_octets-none = refl

as_octets-with : (place : Place) (c : ℕ) (r : Option (List (List ℕ))) → c < 128 → with_character place c (as_octets r) ≡ as_octets (with_character place c r)
as_octets-with between c r lt = as_octets-three (is_blank c) (is_quoting c) r r (onto_first c r) _ _ _ refl refl (as_octets-ascii c r lt)
as_octets-with within c r lt = as_octets-three (is_blank c) (is_quoting c) (end_before r) r (onto_first c r) _ _ _ (as_octets-end r) refl (as_octets-ascii c r lt)
as_octets-with (in_string quote) c r lt = as_octets-two ((c == quote) || (c == 92)) r (onto_first c r) _ _ refl (as_octets-ascii c r lt)
as_octets-with escaped c r lt = as_octets-ascii c r lt
as_octets-with (escaped_in quote) c r lt = as_octets-ascii c r lt
as_octets-with stuck c r lt = as_octets-none

at_end-octets : (place : Place) → at_end place ≡ as_octets (at_end place)
unfolding as_octets
at_end-octets between = refl
at_end-octets within = refl
at_end-octets (in_string quote) = refl
at_end-octets escaped = refl
at_end-octets (escaped_in quote) = refl
at_end-octets stuck = refl

-- the words of a text's octets are those of its characters
words_from-octets : (cs : List ℕ) (place : Place) → IsLow place → words_from place (encode_utf8_all cs) ≡ as_octets (words_from place cs)
words_from-octets [] place low = at_end-octets place
words_from-octets (c ∷ cs) place low = by_test (words_from-octets cs (next_place place c) (next_place-low place c low)) (words_from-octets cs (goes_on place) (goes_on-low place low)) (nat_lt c 128) refl
  where
    by_test : words_from (next_place place c) (encode_utf8_all cs) ≡ as_octets (words_from (next_place place c) cs) → words_from (goes_on place) (encode_utf8_all cs) ≡ as_octets (words_from (goes_on place) cs)
        → (test : Bool) → nat_lt c 128 ≡ test → words_from place (encode_utf8_all (c ∷ cs)) ≡ as_octets (words_from place (c ∷ cs))
    by_test next on true e =
        let lt : c < 128 = grind (arith, nat_tests, e) in
        ap (λ bs. words_from place (bs ++ encode_utf8_all cs)) (encode_ascii c lt) ∙ (ap (with_character place c) next ∙ as_octets-with place c _ lt)
    by_test next on false e =
        let past : 128 ≤ c = grind (arith, nat_tests, e) in
        past-character (encode_utf8 c) (encode_utf8_all cs) place low (encode-some c) (encode-past c past)
        ∙ (ap (onto_all (encode_utf8 c)) on ∙ (as_octets-onto c (words_from (goes_on place) cs) ∙ ap as_octets (sym (words_from-past place c cs low past))))

pub line_words-octets : (line : List ℕ) → IsUtf8 line → line_words line ≡ option_map (map encode_utf8_all) (line_words (chars line))
unfolding IsLow as_octets
line_words-octets line utf8 = ap line_words (sym (encodes-chars line utf8)) ∙ words_from-octets (chars line) between tt

-- ---- words of texts are texts

AreScalar : Option (List (List ℕ)) → Type 0
AreScalar None = ⊤
AreScalar (Some words) = AllByRecursion (λ word. all_scalars word ≡ true) words

scalar_both : (a b : Bool) → a ≡ true → b ≡ true → (a && b) ≡ true
scalar_both a b e f = rw (e, f) refl

onto_first-scalar : (c : ℕ) (r : Option (List (List ℕ))) → all_scalars (c ∷ []) ≡ true → AreScalar r → AreScalar (onto_first c r)
unfolding AreScalar
onto_first-scalar c None h k = tt
onto_first-scalar c (Some []) h k = tt
onto_first-scalar c (Some (word ∷ words)) h k = (scalar_both _ _ (both_true _ _ h).0 k.0, k.1)

end_before-scalar : (r : Option (List (List ℕ))) → AreScalar r → AreScalar (end_before r)
unfolding AreScalar
end_before-scalar None k = tt
end_before-scalar (Some words) k = (refl, k)

if-scalar : (a : Bool) (x y : Option (List (List ℕ))) → AreScalar x → AreScalar y → AreScalar (if a then x else y)
if-scalar true x y h k = h
if-scalar false x y h k = k

none-scalar : AreScalar None
unfolding AreScalar
none-scalar = tt

with-scalar : (place : Place) (c : ℕ) (r : Option (List (List ℕ))) → all_scalars (c ∷ []) ≡ true → AreScalar r → AreScalar (with_character place c r)
with-scalar between c r h k = if-scalar (is_blank c) r (if is_quoting c then r else onto_first c r) k (if-scalar (is_quoting c) r (onto_first c r) k (onto_first-scalar c r h k))
with-scalar within c r h k = if-scalar (is_blank c) (end_before r) (if is_quoting c then r else onto_first c r) (end_before-scalar r k) (if-scalar (is_quoting c) r (onto_first c r) k (onto_first-scalar c r h k))
with-scalar (in_string quote) c r h k = if-scalar ((c == quote) || (c == 92)) r (onto_first c r) k (onto_first-scalar c r h k)
with-scalar escaped c r h k = onto_first-scalar c r h k
with-scalar (escaped_in quote) c r h k = onto_first-scalar c r h k
with-scalar stuck c r h k = none-scalar

at_end-scalar : (place : Place) → AreScalar (at_end place)
unfolding AreScalar
at_end-scalar between = tt
at_end-scalar within = (refl, tt)
at_end-scalar (in_string quote) = tt
at_end-scalar escaped = tt
at_end-scalar (escaped_in quote) = tt
at_end-scalar stuck = tt

words_from-scalar : (cs : List ℕ) (place : Place) → all_scalars cs ≡ true → AreScalar (words_from place cs)
words_from-scalar [] place h = at_end-scalar place
words_from-scalar (c ∷ cs) place h = with-scalar place c _ (scalar_both _ _ (both_true _ _ h).0 refl) (words_from-scalar cs (next_place place c) (both_true _ _ h).1)

all_utf8 : (words : List (List ℕ)) → AllByRecursion (λ word. all_scalars word ≡ true) words → AllByRecursion IsUtf8 (map encode_utf8_all words)
all_utf8 [] h = tt
all_utf8 (word ∷ words) h = ((word, (h.0, refl)), all_utf8 words h.1)

some_utf8 : (r : Option (List (List ℕ))) (words : List (List ℕ)) → AreScalar r → option_map (map encode_utf8_all) r ≡ Some words → AllByRecursion IsUtf8 words
unfolding AreScalar
some_utf8 None words h e = cc
some_utf8 (Some known) words h e = let same : map encode_utf8_all known ≡ words = cc in subst (AllByRecursion IsUtf8) same (all_utf8 known h)

pub line_words-utf8 : (line : List ℕ) → IsUtf8 line → (words : List (List ℕ)) → line_words line ≡ Some words → AllByRecursion IsUtf8 words
line_words-utf8 line utf8 words e = some_utf8 (line_words (chars line)) words (words_from-scalar (chars line) between (scalars-chars line utf8)) (sym (line_words-octets line utf8) ∙ e)
