-- Words and the places of their keys in two lists, and their indexes in order.
use Rattle.std.proofs.Common.{◌≡◌, ℕ, zero, suc, ◌+◌, ◌-◌, ◌<◌, ◌≤◌, Bool, true, false, ◌&&◌, ◌==◌, nat_eq, List, [], ◌∷◌, ◌++◌, map, length, get_or, drop, refl, ap, sym, ◌∙◌, subst, inl, inr, arith, append_assoc, append-nil, length-append}
use Rattle.std.specs.Cmp.{IsTotalOrder}
use Rattle.std.specs.Cmp.Lexicographic.{pointwise}
use Rattle.std.specs.declared.cmp.Ordering.{Ordering}
use Rattle.std.specs.declared.cmp.Ordering.TheVariants.{Less, Equal, Greater}
use Rattle.std.specs.Ordering.{nat_cmp, ordering_then, eq_by_cmp, is_eq, is_lt}
use Rattle.std.specs.List.{Contains, dedup, range_with_len, zip}
use Rattle.std.specs.List.Sorted.{IsPermutation, IsSorted, IsNonDecreasingBy}
use Rattle.std.specs.Str.{bytes_eq}
use Rattle.std.proofs.lemmas.Bool.{cases_lt}
use Rattle.std.proofs.lemmas.Bool.Decides.{nat_tests}
use Rattle.std.proofs.lemmas.Cmp.{nat_cmp_total, nat_list_cmp_total, on_total, then_total}
use Rattle.std.proofs.lemmas.List.{drop_all, drop_more, length-map, get_or-map, get_or_append_left, get_or-append-add}
use Rattle.std.proofs.lemmas.List.Elements.{Contains-get_or}
use Rattle.std.proofs.lemmas.List.FromFn.{length-range_with_len, get_or-map-range_with_len}
use Rattle.std.proofs.lemmas.List.Sorted.{Contains-permutation, IsPermutation-map, IsPermutation-sym}
use Rattle.std.proofs.lemmas.Map.Keys.{ge_from_not_lt}
use Rattle.dict_match.specs.Words.{words_between_blanks}
use Rattle.store_derived.specs.Derived.{octets_cmp}
use Rattle.store_places.specs.Orders.{IsOrderOf}
use Rattle.store_places.specs.Places.{key_at}
use Rattle.store_pieces.specs.Pieces.{Placed, placed_at, occurrences_from, pair_cmp, AreOccurrences}
use Rattle.store_pieces.specs.Wording.{word_with_place, words_with_places, row_cmp}
use Rattle.store_pieces.proofs.PieceLemmas.{from_range}
use Rattle.store_pieces.proofs.PlacedLemmas.{from_occurrences, once_sorted, pieces_tie}

-- ---- one word more

zip_more : {X Y : Type 0} (xs : List X) (ys : List Y) (x : X) (y : Y) → length xs ≡ length ys → zip (xs ++ x ∷ []) (ys ++ y ∷ []) ≡ zip xs ys ++ (x, y) ∷ []
zip_more [] [] x y same = refl
zip_more [] (b ∷ ys) x y same = absurd (omega (arith, same))
zip_more (a ∷ xs) [] x y same = absurd (omega (arith, same))
zip_more (a ∷ xs) (b ∷ ys) x y same = ap (λ l. (a, b) ∷ l) (zip_more xs ys x y (omega (arith, same)))

pub put_one : (place : ℕ) (found found' : List (List ℕ)) (places places' : List ℕ) (w : List ℕ) (left rest : List (List ℕ)) (all : List Placed) → length found ≡ length places → found' ≡ found ++ w ∷ [] → places' ≡ places ++ place
    ∷ [] → left ≡ w ∷ rest
    → zip found places ++ map (placed_at place) left ≡ all → zip found' places' ++ map (placed_at place) rest ≡ all
put_one place found found' places places' w left rest all same one two next before =
    ap (λ l. zip l places' ++ map (placed_at place) rest) one
    ∙ ap (λ l. zip (found ++ w ∷ []) l ++ map (placed_at place) rest) two
    ∙ ap (λ l. l ++ map (placed_at place) rest) (zip_more found places w place same)
    ∙ append_assoc (zip found places) ((w, place) ∷ []) (map (placed_at place) rest)
    ∙ ap (λ l. zip found places ++ map (placed_at place) l) (sym next)
    ∙ before

pub as_many : (place : ℕ) (found found' : List (List ℕ)) (places places' : List ℕ) (w : List ℕ) → length found ≡ length places → found' ≡ found ++ w ∷ [] → places' ≡ places ++ place ∷ [] → length found' ≡ length places'
as_many place found found' places places' w same one two = omega (arith, same, ap length one, ap length two, length-append found (w ∷ []), length-append places (place ∷ []))

pub all_put : (place : ℕ) (found : List (List ℕ)) (places : List ℕ) (left : List (List ℕ)) (all : List Placed) → left ≡ [] → zip found places ++ map (placed_at place) left ≡ all → zip found places ≡ all
all_put place found places left all none before = sym (append-nil (zip found places)) ∙ ap (λ l. zip found places ++ map (placed_at place) l) (sym none) ∙ before

-- ---- the words by their indexes

rows_from : (found : List (List ℕ)) (places : List ℕ) (from n : ℕ) → length found ≡ length places → from + n ≡ length found → map (word_with_place found places) (range_with_len from n) ≡ zip (drop from found) (drop from places)
rows_from found places from zero same all = sym (ap (λ l. zip l (drop from places)) (drop_all from found (omega (arith, all))))
rows_from found places from (suc n) same all =
    let here : drop from found ≡ get_or found from [] ∷ drop (from + 1) found = drop_more found from [] (omega (arith, all)) in
    let there : drop from places ≡ get_or places from 0 ∷ drop (from + 1) places = drop_more places from 0 (omega (arith, same, all)) in
    ap (λ l. word_with_place found places from ∷ l) (rows_from found places (from + 1) n same (omega (arith, all)))
    ∙ sym (ap (λ l. zip l (drop from places)) here ∙ ap (zip (get_or found from [] ∷ drop (from + 1) found)) there)

rows_all : (found : List (List ℕ)) (places : List ℕ) → length found ≡ length places → map (word_with_place found places) (range_with_len 0 (length found)) ≡ zip found places
rows_all found places same = rows_from found places 0 (length found) same (omega arith)

-- ---- their places don't fall

abbrev place_of : Placed → ℕ
place_of p = p.1

joined_rise : (here rest : List Placed) (first : ℕ) → ((i : ℕ) (d : Placed) → i < length here → place_of (get_or here i d) ≡ first) → ((p : Placed) → Contains rest p → first ≤ place_of p) → IsNonDecreasingBy place_of rest
    → IsNonDecreasingBy place_of (here ++ rest)
joined_rise here rest first same low up i j d le lt =
    let size = length-append here rest in
    elim (cases_lt j (length here)) [
      | inl near ↦
          let one = ap place_of (get_or_append_left here rest d i (omega (arith, le, near))) ∙ same i d (omega (arith, le, near)) in
          let two = ap place_of (get_or_append_left here rest d j near) ∙ same j d near in
          omega (arith, one, two)
      | inr far ↦
          let m = j - length here in
          let is_m : length here + m ≡ j = omega (arith, far) in
          let inside : m < length rest = omega (arith, lt, size, far) in
          let two : place_of (get_or (here ++ rest) j d) ≡ place_of (get_or rest m d) = ap (λ n. place_of (get_or (here ++ rest) n d)) (sym is_m) ∙ ap place_of (get_or-append-add here rest m d) in
          elim (cases_lt i (length here)) [
            | inl near ↦
                let one = ap place_of (get_or_append_left here rest d i near) ∙ same i d near in
                omega (arith, one, two, low (get_or rest m d) (Contains-get_or rest m d inside))
            | inr too ↦
                let k = i - length here in
                let is_k : length here + k ≡ i = omega (arith, too) in
                let one : place_of (get_or (here ++ rest) i d) ≡ place_of (get_or rest k d) = ap (λ n. place_of (get_or (here ++ rest) n d)) (sym is_k) ∙ ap place_of (get_or-append-add here rest k d) in
                omega (arith, one, two, up k m d (omega (arith, le, too)) inside)
          ]
    ]

module _ (pieces_in : List ℕ → List (List ℕ)) where
  from_first : (first : ℕ) (keys : List (List ℕ)) (p : Placed) → Contains (occurrences_from pieces_in first keys) p → first ≤ place_of p
  from_first first keys p c = let r = from_occurrences pieces_in first keys p.0 p.1 c in omega (arith, r.2)

  places_rise : (first : ℕ) (keys : List (List ℕ)) → IsNonDecreasingBy place_of (occurrences_from pieces_in first keys)
  places_rise first [] = λ i j d le lt. absurd (omega (arith, lt))
  places_rise first (key ∷ keys) =
      let mine = pieces_in key in
      joined_rise (map (placed_at first) mine) (occurrences_from pieces_in (first + 1) keys) first
      (λ i d lt. ap place_of (get_or-map (placed_at first) mine i [] d (omega (arith, lt, length-map mine (placed_at first)))))
      (λ p c. omega (arith, from_first (first + 1) keys p c))
      (places_rise (first + 1) keys)

no_row : Placed
no_row = ([], 0)

rising : (keys found : List (List ℕ)) (places : List ℕ) → length found ≡ length places → zip found places ≡ occurrences_from words_between_blanks 0 keys → (i j : ℕ) → i ≤ j → j < length found → get_or places i 0 ≤ get_or places j 0
rising keys found places same are i j le lt =
    let row = word_with_place found places in
    let n = length found in
    let all : map row (range_with_len 0 n) ≡ occurrences_from words_between_blanks 0 keys = rows_all found places same ∙ are in
    let up : IsNonDecreasingBy place_of (map row (range_with_len 0 n)) = subst (IsNonDecreasingBy place_of) (sym all) (places_rise words_between_blanks 0 keys) in
    let one : place_of (get_or (map row (range_with_len 0 n)) i no_row) ≡ get_or places i 0 = ap place_of (get_or-map-range_with_len row 0 n i i no_row (omega (arith, le, lt)) (omega arith)) in
    let two : place_of (get_or (map row (range_with_len 0 n)) j no_row) ≡ get_or places j 0 = ap place_of (get_or-map-range_with_len row 0 n j j no_row lt (omega arith)) in
    omega (arith, one, two, up i j no_row le (omega (arith, lt, length-map (range_with_len 0 n) row, length-range_with_len 0 n)))

-- ---- sorted, and each left once

not_below : (a b : ℕ) → a ≤ b → is_lt (nat_cmp b a) ≡ false
not_below a b h = grind (arith, nat_tests)

not_less : (o : Ordering) (i j a b : ℕ) → (i ≤ j → a ≤ b) → is_lt (ordering_then o (nat_cmp j i)) ≡ false → is_lt (ordering_then o (nat_cmp b a)) ≡ false
not_less Less i j a b up h = h
not_less Equal i j a b up h = not_below a b (up (ge_from_not_lt j i h))
not_less Greater i j a b up h = refl

rows_sorted : (keys found : List (List ℕ)) (places sorted : List ℕ) → length found ≡ length places → zip found places ≡ occurrences_from words_between_blanks 0 keys → IsOrderOf found sorted → IsSorted (row_cmp found places) sorted
rows_sorted keys found places sorted same are order k d low lt =
    let i = get_or sorted k d in
    let j = get_or sorted (k + 1) d in
    let range = range_with_len 0 (length found) in
    let inside : j < length found = from_range (length found) j (Contains-permutation sorted range j (IsPermutation-sym range sorted order.each) (Contains-get_or sorted (k + 1) d lt)) in
    not_less (octets_cmp (key_at found j) (key_at found i)) i j (get_or places i 0) (get_or places j 0) (λ le. rising keys found places same are i j le inside) (order.rising k d low lt)

pair_total : IsTotalOrder pair_cmp
pair_total = then_total (on_total (λ (p : Placed). p.0) nat_list_cmp_total) (on_total (λ (p : Placed). p.1) nat_cmp_total)

pub words_once : (keys found : List (List ℕ)) (places sorted last : List ℕ) → length found ≡ length places → zip found places ≡ occurrences_from words_between_blanks 0 keys → IsOrderOf found sorted → last
    ≡ dedup (eq_by_cmp (row_cmp found places)) sorted
    → AreOccurrences words_between_blanks keys (words_with_places found places last)
words_once keys found places sorted last same are order kept =
    let row = word_with_place found places in
    let range = range_with_len 0 (length found) in
    let all : map row range ≡ occurrences_from words_between_blanks 0 keys = rows_all found places same ∙ are in
    once_sorted row (row_cmp found places) (on_total row pair_total) (λ x y. refl) words_between_blanks keys sorted last
    (subst (λ l. IsPermutation l (map row sorted)) all (IsPermutation-map row range sorted order.each))
    (rows_sorted keys found places sorted same are order) kept

-- ---- the test of what is the same

with_false : (x : Bool) → (x && false) ≡ false
with_false true = refl
with_false false = refl

with_true : (x : Bool) → (x && true) ≡ x
with_true true = refl
with_true false = refl

pub apart : (p q : List ℕ) (a b : ℕ) → (a == b) ≡ false → false ≡ is_eq (ordering_then (octets_cmp p q) (nat_cmp a b))
apart p q a b e = sym (ap (λ t. pointwise nat_eq p q && t) e ∙ with_false (pointwise nat_eq p q)) ∙ pieces_tie p q a b

pub alike : (p q : List ℕ) (a b : ℕ) → (a == b) ≡ true → bytes_eq p q ≡ is_eq (ordering_then (octets_cmp p q) (nat_cmp a b))
alike p q a b e = sym (ap (λ t. pointwise nat_eq p q && t) e ∙ with_true (pointwise nat_eq p q)) ∙ pieces_tie p q a b
