-- What is shown of the entries that a query finds, as these are gone through.
use Rattle.std.proofs.Common.{◌≡◌, ℕ, zero, suc, ◌+◌, ◌<◌, List, [], ◌∷◌, ◌++◌, length, map, take, drop, refl, sym, ap, ◌∙◌, cond, not, ◌&&◌, Bool, true, false, append-nil, append_assoc, length-append, arith}
use Rattle.std.specs.Prelude.{filter, slice_get, Some}
use Rattle.std.proofs.lemmas.List.{take-append-drop, map-append}
use Rattle.std.proofs.lemmas.List.Elements.{filter-append}
use Rattle.dict_match.specs.declared.strategy.Strategy.{Strategy}
use Rattle.dict_index.specs.Found.{distinct, Row, row}
use Rattle.dict_desk.specs.PlainEntries.{shown_by, is_hit_of, is_shown, texts_listed, rows_listed, LieWithin}
use Rattle.dict_desk.specs.declared.entries.OwnedEntry.{OwnedEntry}
use Rattle.dict_index.proofs.DistinctLemmas.{distinct_more, distinct_front}
use Rattle.dict_desk.proofs.SpanLemmas.{front_all}
use Rattle.dict_desk.proofs.LinkLemmas.{take_here}

module _ (strategy : Strategy) (query : List ℕ) where
  -- the texts that are found among some entries
  abbrev texts : List OwnedEntry → List (List ℕ)
  texts xs = map shown_by (filter (is_hit_of strategy query) xs)

  -- the rows of a front are a front of the rows
  listed_front : (xs : List OwnedEntry) (n : ℕ) → (rest : List Row) × (rows_listed strategy query xs ≡ rows_listed strategy query (take n xs) ++ rest)
  listed_front xs n =
      let (rest, e) = distinct_front (texts (take n xs)) (texts (drop n xs)) in (
        map (λ shown. row shown []) rest,
        ap (map (λ shown. row shown []))
            (ap (λ ys. texts_listed strategy query ys) (sym (take-append-drop n xs))
            ∙ (ap (λ ys. distinct (map shown_by ys)) (filter-append (is_hit_of strategy query) (take n xs) (drop n xs))
            ∙ (ap distinct (map-append shown_by (filter (is_hit_of strategy query) (take n xs)) (filter (is_hit_of strategy query) (drop n xs))) ∙ e)))
            ∙ map-append (λ shown. row shown []) (distinct (texts (take n xs))) rest,
      )

  module _ (xs : List OwnedEntry) (i : ℕ) (x : OwnedEntry) (at : slice_get xs i ≡ Some x) where
    hits_more : filter (is_hit_of strategy query) (take (i + 1) xs) ≡ filter (is_hit_of strategy query) (take i xs) ++ cond (is_hit_of strategy query x) (x ∷ []) []
    hits_more =
        let one : i + 1 ≡ suc i = omega arith in
        ap (λ n. filter (is_hit_of strategy query) (take n xs)) one ∙ (ap (filter (is_hit_of strategy query)) (take_here xs i x at) ∙ filter-append (is_hit_of strategy query) (take i xs) (x ∷ []))

    -- one more entry that is found, or that isn't
    pub entries_more : is_hit_of strategy query x ≡ true → length (filter (is_hit_of strategy query) (take (i + 1) xs)) ≡ length (filter (is_hit_of strategy query) (take i xs)) + 1
    entries_more hit = ap length (hits_more ∙ ap (λ b. filter (is_hit_of strategy query) (take i xs) ++ cond b (x ∷ []) []) hit) ∙ length-append (filter (is_hit_of strategy query) (take i xs)) (x ∷ [])

    pub hits_same : is_hit_of strategy query x ≡ false → filter (is_hit_of strategy query) (take (i + 1) xs) ≡ filter (is_hit_of strategy query) (take i xs)
    hits_same other = hits_more ∙ (ap (λ b. filter (is_hit_of strategy query) (take i xs) ++ cond b (x ∷ []) []) other ∙ append-nil (filter (is_hit_of strategy query) (take i xs)))

    pub texts_more : is_hit_of strategy query x ≡ true
        → texts_listed strategy query (take (i + 1) xs) ≡ cond (is_shown strategy query (shown_by x) (take i xs)) (texts_listed strategy query (take i xs)) (texts_listed strategy query (take i xs) ++ shown_by x ∷ [])
    texts_more hit =
        ap distinct
        (ap (map shown_by) (hits_more ∙ ap (λ b. filter (is_hit_of strategy query) (take i xs) ++ cond b (x ∷ []) []) hit)
        ∙ map-append shown_by (filter (is_hit_of strategy query) (take i xs)) (x ∷ []))
        ∙ distinct_more (texts (take i xs)) (shown_by x)

    pub texts_same : is_hit_of strategy query x ≡ false → texts_listed strategy query (take (i + 1) xs) ≡ texts_listed strategy query (take i xs)
    texts_same other = ap (λ ys. distinct (map shown_by ys)) (hits_same other)

    -- how many texts there are with it
    pub count_more : is_hit_of strategy query x ≡ true
        → length (texts_listed strategy query (take (i + 1) xs))
        ≡ cond (is_shown strategy query (shown_by x) (take i xs)) (length (texts_listed strategy query (take i xs))) (length (texts_listed strategy query (take i xs)) + 1)
    count_more hit = ap length (texts_more hit) ∙ by_shown (is_shown strategy query (shown_by x) (take i xs)) (texts_listed strategy query (take i xs))
      where
        by_shown : (b : Bool) (ts : List (List ℕ)) → length (cond b ts (ts ++ shown_by x ∷ [])) ≡ cond b (length ts) (length ts + 1)
        by_shown true ts = refl
        by_shown false ts = length-append ts (shown_by x ∷ [])

    -- the entry is found, and none before it that shows the same text
    abbrev pub is_listed : Bool
    is_listed = is_hit_of strategy query x && not (is_shown strategy query (shown_by x) (take i xs))

    pub listed_more : is_listed ≡ true → rows_listed strategy query (take (i + 1) xs) ≡ rows_listed strategy query (take i xs) ++ row (shown_by x) [] ∷ []
    listed_more listed = by_both (is_hit_of strategy query x) (is_shown strategy query (shown_by x) (take i xs)) refl refl listed
      where
        by_both : (hit shown : Bool) → is_hit_of strategy query x ≡ hit → is_shown strategy query (shown_by x) (take i xs) ≡ shown → (hit && not shown) ≡ true
            → rows_listed strategy query (take (i + 1) xs) ≡ rows_listed strategy query (take i xs) ++ row (shown_by x) [] ∷ []
        by_both false shown h s e = cc
        by_both true true h s e = cc
        by_both true false h s e =
            ap (map (λ shown. row shown [])) (texts_more h ∙ ap (λ b. cond b (texts_listed strategy query (take i xs)) (texts_listed strategy query (take i xs) ++ shown_by x ∷ [])) s)
            ∙ map-append (λ shown. row shown []) (texts_listed strategy query (take i xs)) (shown_by x ∷ [])

    pub listed_same : is_listed ≡ false → rows_listed strategy query (take (i + 1) xs) ≡ rows_listed strategy query (take i xs)
    listed_same other = by_both (is_hit_of strategy query x) (is_shown strategy query (shown_by x) (take i xs)) refl refl other
      where
        by_both : (hit shown : Bool) → is_hit_of strategy query x ≡ hit → is_shown strategy query (shown_by x) (take i xs) ≡ shown → (hit && not shown) ≡ false
            → rows_listed strategy query (take (i + 1) xs) ≡ rows_listed strategy query (take i xs)
        by_both false shown h s e = ap (map (λ shown. row shown [])) (texts_same h)
        by_both true true h s e = ap (map (λ shown. row shown [])) (texts_more h ∙ ap (λ b. cond b (texts_listed strategy query (take i xs)) (texts_listed strategy query (take i xs) ++ shown_by x ∷ [])) s)
        by_both true false h s e = cc

    -- the rows before it, its own, and those behind
    pub listed_cut : is_listed ≡ true → (rest : List Row) × (rows_listed strategy query xs ≡ rows_listed strategy query (take i xs) ++ ((row (shown_by x) [] ∷ []) ++ rest))
    listed_cut listed =
        let (rest, e) = listed_front xs (i + 1) in
        (rest, e ∙ (ap (λ rows. rows ++ rest) (listed_more listed) ∙ append_assoc (rows_listed strategy query (take i xs)) (row (shown_by x) [] ∷ []) rest))

-- where all that is found lies before an end, that front has all rows
pub listed_within : (strategy : Strategy) (query : List ℕ) (xs : List OwnedEntry) (first end : ℕ) → LieWithin (is_hit_of strategy query) xs first end → rows_listed strategy query (take end xs) ≡ rows_listed strategy query xs
listed_within strategy query xs first end within = ap (λ ys. map (λ shown. row shown []) (distinct (map shown_by ys))) (front_all (is_hit_of strategy query) xs first end within)

-- an element stands at each place
pub some_at : {X : Type 0} (xs : List X) (i : ℕ) → i < length xs → (x : X) × (slice_get xs i ≡ Some x)
some_at [] i below = absurd (omega arith)
some_at (x ∷ xs) zero below = (x, refl)
some_at (x ∷ xs) (suc i) below = some_at xs i (omega arith)
