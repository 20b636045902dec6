-- What a query finds is among what it looks at.
use Rattle.std.proofs.Common.{◌≡◌, ◌≢◌, ℕ, zero, suc, Bool, true, filter, false, cond, List, [], ◌∷◌, ◌++◌, length, reverse, refl, ap, sym, ◌∙◌, subst, arith, IsUtf8, append_assoc}
use Rattle.std.specs.List.{Contains}
use Rattle.std.proofs.lemmas.Bool.{false≢true, ne_eqb}
use Rattle.std.proofs.lemmas.List.{reverse-reverse, reverse-append, append-nil}
use Rattle.std.proofs.lemmas.List.Elements.{Contains-append_left, Contains-append_right}
use Rattle.dict_match.specs.Words.{words_between_blanks}
use Rattle.dict_match.specs.Matching.{Hits, Fits, StandsIn}
use Rattle.dict_match.specs.declared.strategy.Strategy.{Strategy}
use Rattle.dict_match.specs.declared.strategy.Strategy.TheVariants.{Exact, Prefix, Suffix, Substring, Word, First, Last}
use Rattle.store_derived.specs.Derived.{grams, IsGramOf}
use Rattle.store_derived.specs.KeptGrams.{is_kept_gram, kept_grams}
use Rattle.store_derived.proofs.PieceLemmas.{grams_are}
use Rattle.store_derived.specs.Search.{Rows, NoRows, SelectsKey, by_first, last_gram, by_ends, by_grams, rows_by, rows_for, is_tested}
use Rattle.store_derived.proofs.RangeLemmas.{begins, holds, text-low, reverse-low}

-- ---- words

has_first : (words : List (List ℕ)) (q k : List ℕ) → ((word : List ℕ) (rest : List (List ℕ)) → words ≡ word ∷ rest → Contains (words_between_blanks k) word) → SelectsKey (by_first words) k
has_first [] q k h = tt
has_first (word ∷ rest) q k h = h word rest refl

head : (word : List ℕ) (rest : List (List ℕ)) → Contains (word ∷ rest) word
head word rest = (0, omega arith, refl)

among-run : (ks a run b : List (List ℕ)) (word : List ℕ) (rest : List (List ℕ)) → ks ≡ a ++ run ++ b → run ≡ word ∷ rest → Contains ks word
among-run ks a run b word rest e r =
    let P : List (List ℕ) → Type 0 = λ l. Contains l word in
    let here : Contains run word = subst P (sym r) (head word rest) in
    subst P (sym e) (Contains-append_left (a ++ run) b word (Contains-append_right a run word here))

-- ---- grams

stands_within : (p q k : List ℕ) → StandsIn p q → StandsIn q k → StandsIn p k
stands_within p q k g h = (
  h.0 ++ g.0,
  g.1 ++ h.1,
  h.2 ∙ ap (λ l. h.0 ++ l ++ h.1) g.2
      ∙ ap (λ l. l ++ h.1) (sym (append_assoc h.0 (g.0 ++ p) g.1))
      ∙ append_assoc (h.0 ++ (g.0 ++ p)) g.1 h.1
      ∙ ap (λ l. l ++ (g.1 ++ h.1)) (sym (append_assoc h.0 g.0 p)),
)

behind : (x : List ℕ) (xs : List (List ℕ)) (g : List ℕ) → Contains xs g → Contains (x ∷ xs) g
behind x xs g c = Contains-append_right (x ∷ []) xs g c

kept_by : (b : Bool) (p : List ℕ → Bool) (x : List ℕ) (xs : List (List ℕ)) (g : List ℕ) → (Contains (filter p xs) g → Contains xs g) → Contains (cond b (x ∷ filter p xs) (filter p xs)) g → Contains (x ∷ xs) g
kept_by true p x xs g later (zero, lt, e) = (0, omega arith, e)
kept_by true p x xs g later (suc n, lt, e) = behind x xs g (later (n, omega (arith, lt), e))
kept_by false p x xs g later c = behind x xs g (later c)

kept_in : (p : List ℕ → Bool) (xs : List (List ℕ)) (g : List ℕ) → Contains (filter p xs) g → Contains xs g
kept_in p [] g c = c
kept_in p (x ∷ xs) g c = kept_by (p x) p x xs g (kept_in p xs g) c

-- the first and the last of runs are among them
has_last : (g : List ℕ) (rest : List (List ℕ)) (k : List ℕ) → IsGramOf k g → ((h : List ℕ) → Contains rest h → IsGramOf k h) → IsGramOf k (last_gram g rest)
has_last g [] k is all = is
has_last g (next ∷ rest) k is all = has_last next rest k (all next (head next rest)) (λ h c. all h (behind next rest h c))

has_ends : (runs : List (List ℕ)) (k : List ℕ) → ((g : List ℕ) → Contains runs g → IsGramOf k g) → SelectsKey (by_ends runs) k
has_ends [] k all = tt
has_ends (g ∷ rest) k all =
    let is : IsGramOf k g = all g (head g rest) in
    (is, has_last g rest k is (λ h c. all h (behind g rest h c)))

has_grams : (q k : List ℕ) → StandsIn q k → SelectsKey (by_grams q) k
has_grams q k h = has_ends (kept_grams q) k (λ g c.
    let of_query : IsGramOf q g = (grams_are q g).0 (kept_in is_kept_gram (grams q) g c) in
    (of_query.0, stands_within g q k of_query.1 h))

-- ---- all strategies

fitting : (strategy : Strategy) (q k : List ℕ) → IsUtf8 k → Fits strategy q k → SelectsKey (rows_by strategy q) k
fitting Exact q k u h = h
fitting Prefix q k u h = holds q k h.0 (text-low k u) h.1
fitting Suffix q k u h = holds (reverse q) (reverse k) (reverse h.0) (reverse-low k u) (ap reverse h.1 ∙ reverse-append h.0 q)
fitting Substring q k u h = has_grams q k h
fitting Word q k u h = has_first (words_between_blanks q) q k (λ word rest e. among-run _ h.0 (words_between_blanks q) h.1 word rest h.2 e)
fitting First q k u h = has_first (words_between_blanks q) q k (λ word rest e. among-run _ [] (words_between_blanks q) h.0 word rest h.1 e)
fitting Last q k u h = has_first (words_between_blanks q) q k (λ word rest e. among-run _ h.0 (words_between_blanks q) [] word rest (h.1 ∙ sym (append-nil _)) e)

fits : (strategy : Strategy) (q k : List ℕ) → is_tested strategy ≡ false → SelectsKey (rows_by strategy q) k → Fits strategy q k
fits Exact q k t h = h
fits Prefix q k t h = begins q k h
fits Suffix q k t h =
    let rest = begins (reverse q) (reverse k) h in
    (reverse rest.0, sym (reverse-reverse k) ∙ ap reverse rest.1 ∙ reverse-append (reverse q) rest.0 ∙ ap (λ l. reverse rest.0 ++ l) (reverse-reverse q))
fits Substring q k t h = absurd (false≢true (sym t))
fits Word q k t h = absurd (false≢true (sym t))
fits First q k t h = absurd (false≢true (sym t))
fits Last q k t h = absurd (false≢true (sym t))

pub not_empty : (strategy : Strategy) (q : List ℕ) → q ≢ [] → rows_for strategy q ≡ rows_by strategy q
not_empty strategy [] h = absurd (h refl)
not_empty strategy (x ∷ q) h = ap (λ t. cond t NoRows (rows_by strategy (x ∷ q))) (ne_eqb (length (x ∷ q)) 0 (λ e. absurd (omega arith)))

pub among : (strategy : Strategy) (q k : List ℕ) → IsUtf8 k → Hits strategy q k → SelectsKey (rows_for strategy q) k
among strategy q k u h = let P : Rows → Type 0 = λ rows. SelectsKey rows k in subst P (sym (not_empty strategy q h.0)) (fitting strategy q k u h.1)

pub some_query : (strategy : Strategy) (q k : List ℕ) → SelectsKey (rows_for strategy q) k → q ≢ []
some_query strategy [] k h e = h
some_query strategy (x ∷ q) k h e = cc

pub only : (strategy : Strategy) (q k : List ℕ) → is_tested strategy ≡ false → IsUtf8 k → SelectsKey (rows_for strategy q) k → Hits strategy q k
only strategy q k t u h =
    let P : Rows → Type 0 = λ rows. SelectsKey rows k in
    let some = some_query strategy q k h in
    (some, fits strategy q k t (subst P (not_empty strategy q some) h))
