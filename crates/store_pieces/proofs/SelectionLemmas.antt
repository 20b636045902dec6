-- The tests of selections, and what is found among what is looked at.
use Rattle.std.proofs.Common.{◌≡◌, ◌≢◌, ◌↔◌, ℕ, eqb, ◌<◌, Bool, true, false, ◌&&◌, List, [], ◌∷◌, length, filter, reverse, refl, ap, sym, ◌∙◌, subst, inl, inr, arith, IsTrue}
use Rattle.std.specs.Bool.{Decides}
use Rattle.std.specs.List.{All, Contains}
use Rattle.std.specs.Ordering.{is_le}
use Rattle.std.specs.Str.{IsUtf8}
use Rattle.std.proofs.lemmas.Bool.{false≢true}
use Rattle.std.proofs.lemmas.Bool.Decides.{Decides-eqb}
use Rattle.std.proofs.lemmas.List.Elements.{All-get_or}
use Rattle.std.proofs.lemmas.List.Kept.{IsStrictlyIncreasing-filter}
use Rattle.std.proofs.lemmas.Map.Keys.{sorted_from_strictly_increasing}
use Rattle.std.proofs.lemmas.Slice.Eq.{bytes_eq-Decides}
use Rattle.dict_match.specs.Words.{words_between_blanks}
use Rattle.dict_match.specs.Matching.{is_hit, Hits, HasWords}
use Rattle.dict_match.specs.declared.strategy.Strategy.{Strategy}
use Rattle.dict_match.specs.declared.strategy.Strategy.TheVariants.{Exact, Prefix, Suffix, Substring, Word, First, Last}
use Rattle.dict_match.proofs.DecideLemmas.{hit_law}
use Rattle.store_derived.specs.Derived.{grams, octets_cmp, IsGramOf}
use Rattle.store_derived.specs.Search.{Rows, NoRows, AllRows, WithKey, BetweenKeys, BetweenReversed, WithGrams, WithWord, SelectsKey, by_first, rows_for}
use Rattle.store_derived.proofs.PieceLemmas.{grams_are}
use Rattle.store_derived.proofs.SearchLemmas.{among, only, some_query, not_empty}
use Rattle.store_places.specs.Places.{key_at, places_where}
use Rattle.store_pieces.specs.Selected.{has_gram, is_selected, finds_all}
use Rattle.store_places.proofs.ListLemmas.{none_in, cases_of, same_rising, filter_in, in_filter}
use Rattle.store_pieces.proofs.PieceLemmas.{has, where_is, where_rises}

-- ---- the tests of selections

and_both : (a b : Bool) (P Q : Type 0) → Decides a P → Decides b Q → Decides (a && b) (P × Q)
and_both true b P Q p q = ((λ h. (p.0 refl, q.0 h)), (λ h. q.1 h.1))
and_both false b P Q p q = ((λ h. absurd (false≢true h)), (λ h. absurd (false≢true (p.1 h.0))))

gram_told : (g k : List ℕ) → Decides (has_gram g k) (IsGramOf k g)
gram_told g k =
    let here = has grams g k in
    let there = grams_are k g in
    ((λ e. there.0 (here.0 e)), (λ h. here.1 (there.1 h)))

both_told : (a b : Bool) → Decides (a && b) (IsTrue a × IsTrue b)
both_told a b = and_both a b (IsTrue a) (IsTrue b) ((λ h. h), (λ h. h)) ((λ h. h), (λ h. h))

pub selects : (rows : Rows) (k : List ℕ) → IsTrue (is_selected rows k) ↔ SelectsKey rows k
selects NoRows k = ((λ h. absurd (false≢true h)), (λ h. absurd h))
selects AllRows k = ((λ h. tt), (λ h. refl))
selects (WithKey q) k = bytes_eq-Decides k q
selects (BetweenKeys low high) k = both_told (is_le (octets_cmp low k)) (is_le (octets_cmp k high))
selects (BetweenReversed low high) k = both_told (is_le (octets_cmp low (reverse k))) (is_le (octets_cmp (reverse k) high))
selects (WithGrams a b) k = and_both (has_gram a k) (has_gram b k) (IsGramOf k a) (IsGramOf k b) (gram_told a k) (gram_told b k)
selects (WithWord w) k = has words_between_blanks w k

pub selects_decided : (rows : Rows) (k : List ℕ) → Decides (is_selected rows k) (SelectsKey rows k)
selects_decided rows k = selects rows k

-- ---- what is found among what is looked at

text_there : (keys : List (List ℕ)) (place : ℕ) → All IsUtf8 keys → place < length keys → IsUtf8 (key_at keys place)
text_there keys place all lt = All-get_or IsUtf8 keys place [] lt all

pub hit_decided : (strategy : Strategy) (q k : List ℕ) → Decides (is_hit strategy q k) (Hits strategy q k)
hit_decided strategy q k = hit_law strategy q k

-- where all that is looked at is a hit, that is what is found
all_hit : (strategy : Strategy) (q : List ℕ) (keys : List (List ℕ)) → All IsUtf8 keys → ((k : List ℕ) → IsUtf8 k → SelectsKey (rows_for strategy q) k → Hits strategy q k) → places_where (is_selected (rows_for strategy q)) keys
    ≡ places_where (is_hit strategy q) keys
all_hit strategy q keys text only_hits =
    let sel = is_selected (rows_for strategy q) in
    let hit = is_hit strategy q in
    same_rising (places_where sel keys) (places_where hit keys) (sorted_from_strictly_increasing (places_where sel keys) (where_rises sel keys)) (sorted_from_strictly_increasing (places_where hit keys) (where_rises hit keys)) (λ z. (
      (λ c.
          let h = (where_is sel keys z).0 c in
          let k = key_at keys z in
          (where_is hit keys z).1 (h.0, (hit_decided strategy q k).1 (only_hits k (text_there keys z text h.0) ((selects_decided (rows_for strategy q) k).0 h.1)))),
      (λ c.
          let h = (where_is hit keys z).0 c in
          let k = key_at keys z in
          (where_is sel keys z).1 (h.0, (selects_decided (rows_for strategy q) k).1 (among strategy q k (text_there keys z text h.0) ((hit_decided strategy q k).0 h.1)))),
    ))

-- a word that is one of a key's is a run of these
run_of_one : (words : List (List ℕ)) (word : List ℕ) → Contains words word → HasWords words (word ∷ [])
run_of_one [] word c = absurd (none_in word c)
run_of_one (w ∷ words) word c = elim (cases_of w words word c) [
  | inl is ↦ ([], words, ap (λ x. x ∷ words) is)
  | inr there ↦ let rest = run_of_one words word there in (w ∷ rest.0, rest.1, ap (λ l. w ∷ l) rest.2)
]

one_word : (words : List (List ℕ)) → eqb (length words) 1 ≡ true → (word : List ℕ) × (words ≡ word ∷ [])
one_word [] h = absurd (false≢true h)
one_word (w ∷ []) h = (w, refl)
one_word (w ∷ x ∷ words) h = absurd (omega (arith, (Decides-eqb (length (w ∷ x ∷ words)) 1).0 h))

-- of a query that is one word no more is looked at than found
word_hits : (q k : List ℕ) → finds_all Word q ≡ true → SelectsKey (rows_for Word q) k → Hits Word q k
word_hits q k one h =
    let word = one_word (words_between_blanks q) one in
    let some : q ≢ [] = some_query Word q k h in
    let here : Contains (words_between_blanks k) word.0 = subst (λ rows. SelectsKey rows k) (not_empty Word q some ∙ ap by_first word.1) h in
    (some, subst (HasWords (words_between_blanks k)) (sym word.1) (run_of_one (words_between_blanks k) word.0 here))

-- no test follows: all that is looked at is found
pub untested : (strategy : Strategy) (q : List ℕ) (keys : List (List ℕ)) → All IsUtf8 keys → finds_all strategy q ≡ true → places_where (is_selected (rows_for strategy q)) keys ≡ places_where (is_hit strategy q) keys
untested Exact q keys text plain = all_hit Exact q keys text (λ k. only Exact q k refl)
untested Prefix q keys text plain = all_hit Prefix q keys text (λ k. only Prefix q k refl)
untested Suffix q keys text plain = all_hit Suffix q keys text (λ k. only Suffix q k refl)
untested Substring q keys text plain = absurd (false≢true plain)
untested Word q keys text plain = all_hit Word q keys text (λ k u. word_hits q k plain)
untested First q keys text plain = absurd (false≢true plain)
untested Last q keys text plain = absurd (false≢true plain)

-- those that pass the test among the places of keys that pass another one, which all have that pass it
pub tested_among : (wide hit : List ℕ → Bool) (keys : List (List ℕ)) → ((z : ℕ) → z < length keys → hit (key_at keys z) ≡ true → wide (key_at keys z) ≡ true) → filter (λ place. hit (key_at keys place)) (places_where wide keys)
    ≡ places_where hit keys
tested_among wide hit keys covers =
    let mine = filter (λ place. hit (key_at keys place)) (places_where wide keys) in
    same_rising mine (places_where hit keys) (sorted_from_strictly_increasing mine (IsStrictlyIncreasing-filter (λ place. hit (key_at keys place)) (places_where wide keys) (where_rises wide keys)))
    (sorted_from_strictly_increasing (places_where hit keys) (where_rises hit keys)) (λ z. (
      (λ c.
          let r = filter_in (λ place. hit (key_at keys place)) (places_where wide keys) z c in
          (where_is hit keys z).1 (((where_is wide keys z).0 r.0).0, r.1)),
      (λ c.
          let h = (where_is hit keys z).0 c in
          in_filter (λ place. hit (key_at keys place)) (places_where wide keys) z ((where_is wide keys z).1 (h.0, covers z h.0 h.1)) h.1),
    ))

-- what is found is among what is looked at
pub covered : (strategy : Strategy) (q : List ℕ) (keys : List (List ℕ)) → All IsUtf8 keys → (z : ℕ) → z < length keys → is_hit strategy q (key_at keys z) ≡ true → is_selected (rows_for strategy q) (key_at keys z) ≡ true
covered strategy q keys text z lt h = let k = key_at keys z in (selects_decided (rows_for strategy q) k).1 (among strategy q k (text_there keys z text lt) ((hit_decided strategy q k).0 h))

pub tested : (strategy : Strategy) (q : List ℕ) (keys : List (List ℕ)) → All IsUtf8 keys → filter (λ place. is_hit strategy q (key_at keys place)) (places_where (is_selected (rows_for strategy q)) keys)
    ≡ places_where (is_hit strategy q) keys
tested strategy q keys text = tested_among (is_selected (rows_for strategy q)) (is_hit strategy q) keys (covered strategy q keys text)
