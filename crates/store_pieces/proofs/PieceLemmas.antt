-- Pairs of a piece and a place, grouped by pieces; and a piece looked for among those that rise.
use Rattle.std.proofs.Common.{◌≡◌, ◌↔◌, ℕ, zero, suc, ◌+◌, ◌-◌, ◌<◌, ◌≤◌, Bool, true, false, cond, ◌&&◌, List, [], ◌∷◌, ◌++◌, map, take, length, get_or, filter, refl, ap, sym, ◌∙◌, subst, inl, inr, arith, append_assoc}
use Rattle.std.proofs.Common.{append-nil, length-append, nat_eq, nat_lt, Result, Ok, Err}
use Rattle.std.specs.Bool.{Decides}
use Rattle.std.specs.Result.{OnOk}
use Rattle.std.specs.declared.cmp.Ordering.{Ordering}
use Rattle.std.specs.declared.cmp.Ordering.TheVariants.{Less, Equal, Greater}
use Rattle.std.specs.Ordering.{nat_cmp, ordering_then, ordering_reverse}
use Rattle.std.specs.List.{AllByRecursion, Contains, list_any, range_with_len}
use Rattle.std.specs.List.Sorted.{IsStrictlySortedBy, IsStrictlyIncreasing}
use Rattle.std.specs.Str.{bytes_eq}
use Rattle.std.proofs.lemmas.Bool.{false≢true, cases_lt}
use Rattle.std.proofs.lemmas.Bool.Decides.{nat_tests}
use Rattle.std.proofs.lemmas.Cmp.{nat_list_cmp_total, tied_itself}
use Rattle.std.proofs.lemmas.List.{map-append, take_more, take_all, length-map, get_or-map, get_or_append_left, get_or_default, get_or_push, length-take-le}
use Rattle.std.proofs.lemmas.List.Elements.{filter_more, Contains-append_left, Contains-append_right, Contains-append_cases}
use Rattle.std.proofs.lemmas.List.FromFn.{length-range_with_len, get_or-range_with_len}
use Rattle.std.proofs.lemmas.List.Kept.{IsStrictlyIncreasing-filter}
use Rattle.std.proofs.lemmas.Map.Keys.{sorted_tail, sorted_from_strictly_increasing, sorted_from_all_adjacent, Less-from_sorted}
use Rattle.std.proofs.lemmas.Map.Lookups.{exact_bytes}
use Rattle.std.proofs.lemmas.Map.Made.{is_member-Decides}
use Rattle.std.proofs.lemmas.Slice.Eq.{bytes_eq-Decides}
use Rattle.store_derived.specs.Derived.{octets_cmp}
use Rattle.store_places.specs.Places.{key_at, places_where}
use Rattle.store_pieces.specs.Selected.{has_piece}
use Rattle.store_pieces.specs.Pieces.{Placed, with_piece, pairs_of, pair_cmp, occurrences_from, AreOccurrences, ArePlaced, ends_with_piece}
use Rattle.store_pieces.specs.Grouped.{AreGrouped, GoesOnGrouping}
use Rattle.store_places.proofs.ListLemmas.{none_in, at_front, filter_in, in_filter, range_rises, same_rising}
use Rattle.store_pieces.proofs.PlacedLemmas.{from_map, to_map, from_occurrences, to_occurrences}

-- ---- one piece, or one place, more

pub pairs_more : (pieces lists : List (List ℕ)) (piece list : List ℕ) → length pieces ≡ length lists → pairs_of (pieces ++ piece ∷ []) (lists ++ list ∷ []) ≡ pairs_of pieces lists ++ map (with_piece piece) list
pairs_more [] [] piece list same = append-nil (map (with_piece piece) list)
pairs_more [] (l ∷ lists) piece list same = absurd (omega (arith, same))
pairs_more (p ∷ pieces) [] piece list same = absurd (omega (arith, same))
pairs_more (p ∷ pieces) (l ∷ lists) piece list same =
    ap (λ rest. map (with_piece p) l ++ rest) (pairs_more pieces lists piece list (omega (arith, same)))
    ∙ sym (append_assoc (map (with_piece p) l) (pairs_of pieces lists) (map (with_piece piece) list))

-- a list that isn't empty is the others and its last
pub but_last : {X : Type 0} (xs : List X) (d : X) → 0 < length xs → xs ≡ take (length xs - 1) xs ++ get_or xs (length xs - 1) d ∷ []
but_last xs d some =
    let n = length xs - 1 in
    let whole : take (n + 1) xs ≡ xs = take_all (n + 1) xs (omega arith) in
    sym whole ∙ take_more xs n d (omega arith)

pub but_last_size : {X : Type 0} (xs : List X) → 0 < length xs → length (take (length xs - 1) xs) ≡ length xs - 1
but_last_size xs some = length-take-le (length xs - 1) xs (omega arith)

-- a place more of the last piece
pub pairs_grown : (pieces lists lists' : List (List ℕ)) (piece : List ℕ) (place : ℕ) → length pieces ≡ length lists → 0 < length pieces → get_or pieces (length pieces - 1) [] ≡ piece
    → ((front : List (List ℕ)) (last : List ℕ) → lists ≡ front ++ last ∷ [] → lists' ≡ front ++ (last ++ place ∷ []) ∷ [])
    → (pairs_of pieces lists' ≡ pairs_of pieces lists ++ (piece, place) ∷ []) × (length pieces ≡ length lists')
pairs_grown pieces lists lists' piece place same some is grows =
    let ps = take (length pieces - 1) pieces in
    let ls = take (length lists - 1) lists in
    let p = get_or pieces (length pieces - 1) [] in
    let l = get_or lists (length lists - 1) [] in
    let some_too : 0 < length lists = omega (arith, same, some) in
    let pieces_is : pieces ≡ ps ++ p ∷ [] = but_last pieces [] some in
    let lists_is : lists ≡ ls ++ l ∷ [] = but_last lists [] some_too in
    let alike : length ps ≡ length ls = omega (arith, but_last_size pieces some, but_last_size lists some_too, same) in
    let now : lists' ≡ ls ++ (l ++ place ∷ []) ∷ [] = grows ls l lists_is in
    let here = map (with_piece p) l in
    let before : pairs_of pieces lists ≡ pairs_of ps ls ++ here = ap (λ x. pairs_of x lists) pieces_is ∙ ap (pairs_of (ps ++ p ∷ [])) lists_is ∙ pairs_more ps ls p l alike in (
      ap (λ x. pairs_of x lists') pieces_is
          ∙ ap (pairs_of (ps ++ p ∷ [])) now
          ∙ pairs_more ps ls p (l ++ place ∷ []) alike
          ∙ ap (λ x. pairs_of ps ls ++ x) (map-append (with_piece p) l (place ∷ []))
          ∙ sym (append_assoc (pairs_of ps ls) here ((p, place) ∷ []))
          ∙ ap (λ x. x ++ (p, place) ∷ []) (sym before)
          ∙ ap (λ w. pairs_of pieces lists ++ (w, place) ∷ []) is,
      omega (arith, ap length now, length-append ls ((l ++ place ∷ []) ∷ []), but_last_size lists some_too, same, some),
    )

pub pairs_begun : (pieces lists pieces' lists' : List (List ℕ)) (piece : List ℕ) (place : ℕ) → length pieces ≡ length lists → pieces' ≡ pieces ++ piece ∷ [] → lists' ≡ lists ++ (place ∷ []) ∷ []
    → (pairs_of pieces' lists' ≡ pairs_of pieces lists ++ (piece, place) ∷ []) × (length pieces' ≡ length lists')
pairs_begun pieces lists pieces' lists' piece place same one two = (
  ap (λ x. pairs_of x lists') one ∙ ap (pairs_of (pieces ++ piece ∷ [])) two ∙ pairs_more pieces lists piece (place ∷ []) same,
  omega (arith, ap length one, ap length two, length-append pieces (piece ∷ []), length-append lists ((place ∷ []) ∷ []), same),
)

positive : (n : ℕ) → nat_lt 0 (suc n) ≡ true
positive n = grind (arith, nat_tests)

not_last : (pieces : List (List ℕ)) (piece : List ℕ) → 0 < length pieces → ends_with_piece pieces piece ≡ false → bytes_eq (get_or pieces (length pieces - 1) []) piece ≡ false
not_last [] piece some h = absurd (omega (arith, some))
not_last (p ∷ pieces) piece some h = sym (ap (λ t. t && bytes_eq (get_or (p ∷ pieces) (length (p ∷ pieces) - 1) []) piece) (positive (length pieces))) ∙ h

pub is_last : (pieces : List (List ℕ)) (piece : List ℕ) → ends_with_piece pieces piece ≡ true → (0 < length pieces) × (get_or pieces (length pieces - 1) [] ≡ piece)
is_last [] piece h = absurd (false≢true h)
is_last (p ∷ pieces) piece h =
    let here : bytes_eq (get_or (p ∷ pieces) (length (p ∷ pieces) - 1) []) piece ≡ true = sym (ap (λ t. t && bytes_eq (get_or (p ∷ pieces) (length (p ∷ pieces) - 1) []) piece) (positive (length pieces))) ∙ h in
    (omega arith, (bytes_eq-Decides (get_or (p ∷ pieces) (length (p ∷ pieces) - 1) []) piece).0 here)

-- the same of a call that puts it
abbrev pub PutSo : {A E : Type 0} → Result A E → List (List ℕ) → List (List ℕ) → List (List ℕ) → List (List ℕ) → List ℕ → ℕ → Type 0
PutSo r pieces lists pieces' lists' piece place =
    OnOk r (pairs_of pieces' lists' ≡ pairs_of pieces lists ++ (piece, place) ∷ []) × OnOk r (pieces' ≡ cond (ends_with_piece pieces piece) pieces (pieces ++ piece ∷ [])) × OnOk r (length pieces' ≡ length lists')

pub put_grown : {A E : Type 0} (r : Result A E) (pieces lists lists' : List (List ℕ)) (piece : List ℕ) (place : ℕ) → ends_with_piece pieces piece ≡ true → length pieces ≡ length lists
    → OnOk r ((front : List (List ℕ)) (last : List ℕ) → lists ≡ front ++ last ∷ [] → lists' ≡ front ++ (last ++ place ∷ []) ∷ []) → PutSo r pieces lists pieces lists' piece place
put_grown (Ok x) pieces lists lists' piece place e same grows =
    let there = is_last pieces piece e in
    let put = pairs_grown pieces lists lists' piece place same there.0 there.1 grows in
    (put.0, sym (ap (λ b. cond b pieces (pieces ++ piece ∷ [])) e), put.1)
put_grown (Err x) pieces lists lists' piece place e same grows = (tt, tt, tt)

pub put_begun : {A E : Type 0} (r : Result A E) (pieces lists pieces' lists' : List (List ℕ)) (piece : List ℕ) (place : ℕ) → ends_with_piece pieces piece ≡ false → length pieces ≡ length lists → pieces' ≡ pieces ++ piece ∷ []
    → OnOk r (lists' ≡ lists ++ (place ∷ []) ∷ []) → PutSo r pieces lists pieces' lists' piece place
put_begun (Ok x) pieces lists pieces' lists' piece place e same one two =
    let put = pairs_begun pieces lists pieces' lists' piece place same one two in
    (put.0, one ∙ sym (ap (λ b. cond b pieces (pieces ++ piece ∷ [])) e), put.1)
put_begun (Err x) pieces lists pieces' lists' piece place e same one two = (tt, tt, tt)

-- ---- what has been grouped

none_rise : IsStrictlySortedBy octets_cmp []
unfolding IsStrictlySortedBy
none_rise = tt

pub none_grouped : (pairs : List Placed) → AreGrouped pairs 0 [] []
none_grouped pairs = record { same = refl; are = refl; rising = none_rise; none = λ _. refl; last = λ d some. absurd (omega (arith, some)) }

pub rising_push : (xs : List (List ℕ)) (y : List ℕ) → IsStrictlySortedBy octets_cmp xs → (0 < length xs → octets_cmp (get_or xs (length xs - 1) []) y ≡ Less) → IsStrictlySortedBy octets_cmp (xs ++ y ∷ [])
rising_push xs y up below =
    let size = length-append xs (y ∷ []) in
    sorted_from_all_adjacent nat_list_cmp_total (xs ++ y ∷ []) [] (λ k lt. elim (cases_lt (k + 1) (length xs)) [
      | inl less ↦
          ap (λ a. octets_cmp a (get_or (xs ++ y ∷ []) (k + 1) [])) (get_or_append_left xs (y ∷ []) [] k (omega arith))
          ∙ ap (octets_cmp (get_or xs k [])) (get_or_append_left xs (y ∷ []) [] (k + 1) less)
          ∙ Less-from_sorted octets_cmp xs k (k + 1) [] up (omega arith) less
      | inr le ↦
          let at : k ≡ length xs - 1 = omega (arith, lt, le, size) in
          ap (λ a. octets_cmp a (get_or (xs ++ y ∷ []) (k + 1) [])) (get_or_append_left xs (y ∷ []) [] k (omega (arith, lt, le, size)) ∙ ap (λ n. get_or xs n []) at)
          ∙ ap (octets_cmp (get_or xs (length xs - 1) [])) (get_or_push xs y [] (k + 1) (omega (arith, lt, le, size)))
          ∙ below (omega (arith, lt, le, size))
    ])

-- of two pairs in order whose pieces differ, the first piece is below the other
first_below : (o s : Ordering) → ordering_then o s ≡ Less → (o ≡ Equal → ⊥) → o ≡ Less
first_below Less s h never = refl
first_below Equal s h never = absurd (never refl)
first_below Greater s h never = h

differs : (a b : List ℕ) → bytes_eq a b ≡ false → octets_cmp a b ≡ Equal → ⊥
differs a b e same = false≢true (sym e ∙ (bytes_eq-Decides a b).1 (exact_bytes a b same))

pub next_grouped : (pairs : List Placed) (i : ℕ) (pieces lists pieces' lists' : List (List ℕ)) (q : Placed) → IsStrictlySortedBy pair_cmp pairs → i < length pairs → q ≡ get_or pairs i q → AreGrouped pairs i pieces lists
    → pairs_of pieces' lists' ≡ pairs_of pieces lists ++ q ∷ [] → pieces' ≡ cond (ends_with_piece pieces q.0) pieces (pieces ++ q.0 ∷ []) → length pieces' ≡ length lists' → AreGrouped pairs (i + 1) pieces' lists'
next_grouped pairs i pieces lists pieces' lists' q up lt at old put is same = record {
  same = same;
  are = put ∙ ap (λ x. x ++ q ∷ []) old.are ∙ ap (λ x. take i pairs ++ x ∷ []) at ∙ sym (take_more pairs i q lt);
  rising = subst (IsStrictlySortedBy octets_cmp) (sym is) (by (ends_with_piece pieces q.0) refl).0;
  none = λ e. absurd (omega (arith, e));
  last = λ d some.
      let here : (i + 1) - 1 ≡ i = omega arith in
      let r = (by (ends_with_piece pieces q.0) refl).1 in
      let last_is : get_or pieces' (length pieces' - 1) [] ≡ q.0 = ap (λ l. get_or l (length l - 1) []) is ∙ r.1 in
      (subst (λ l. 0 < length l) (sym is) r.0, last_is ∙ ap (λ (p : Placed). p.0) (at ∙ get_or_default pairs i q d lt ∙ ap (λ n. get_or pairs n d) (sym here)));
}
  where
    by : (b : Bool) → ends_with_piece pieces q.0 ≡ b → IsStrictlySortedBy octets_cmp (cond b pieces (pieces ++ q.0 ∷ []))
        × ((0 < length (cond b pieces (pieces ++ q.0 ∷ []))) × (get_or (cond b pieces (pieces ++ q.0 ∷ [])) (length (cond b pieces (pieces ++ q.0 ∷ [])) - 1) [] ≡ q.0))
    by true e = (old.rising, is_last pieces q.0 e)
    by false e =
        let size = length-append pieces (q.0 ∷ []) in (
          rising_push pieces q.0 old.rising (λ some.
              let before : 0 < i = elim (cases_lt 0 i) [ inl less ↦ less | inr le ↦ absurd (omega (arith, some, old.none (omega arith))) ] in
              let of_last : get_or pieces (length pieces - 1) [] ≡ (get_or pairs (i - 1) q).0 = (old.last q before).1 in
              let down : pair_cmp (get_or pairs (i - 1) q) (get_or pairs i q) ≡ Less = Less-from_sorted pair_cmp pairs (i - 1) i q up (omega arith) lt in
              let of_this : (get_or pairs i q).0 ≡ q.0 = ap (λ (p : Placed). p.0) (sym at) in
              let apart : octets_cmp (get_or pieces (length pieces - 1) []) q.0 ≡ Equal → ⊥ = differs (get_or pieces (length pieces - 1) []) q.0 (not_last pieces q.0 some e) in
              let lower : ordering_then (octets_cmp (get_or pieces (length pieces - 1) []) q.0) (nat_cmp (get_or pairs (i - 1) q).1 (get_or pairs i q).1) ≡ Less =
              ap (λ a. ordering_then (octets_cmp a q.0) (nat_cmp (get_or pairs (i - 1) q).1 (get_or pairs i q).1)) of_last
              ∙ ap (λ a. ordering_then (octets_cmp (get_or pairs (i - 1) q).0 a) (nat_cmp (get_or pairs (i - 1) q).1 (get_or pairs i q).1)) (sym of_this) ∙ down in
              first_below (octets_cmp (get_or pieces (length pieces - 1) []) q.0) (nat_cmp (get_or pairs (i - 1) q).1 (get_or pairs i q).1) lower apart),
          (omega (arith, size), get_or_push pieces q.0 [] (length (pieces ++ q.0 ∷ []) - 1) (omega (arith, size))),
        )

-- ---- what the groups hold

-- in pairs that rise the places of one piece do, and so do the pairs behind it
places_rise : (piece : List ℕ) (list : List ℕ) (rest : List Placed) → IsStrictlySortedBy pair_cmp (map (with_piece piece) list ++ rest) → IsStrictlySortedBy nat_cmp list
unfolding IsStrictlySortedBy
places_rise piece [] rest h = tt
places_rise piece (z ∷ list) rest h = (below list h.0, places_rise piece list rest h.1)
  where
    below : (ys : List ℕ) → AllByRecursion (λ y. pair_cmp (piece, z) y ≡ Less) (map (with_piece piece) ys ++ rest) → AllByRecursion (λ y. nat_cmp z y ≡ Less) ys
    below [] a = tt
    below (y ∷ ys) a = (ap (λ o. ordering_then o (nat_cmp z y)) (sym (tied_itself nat_list_cmp_total piece)) ∙ a.0, below ys a.1)

rest_rises : (xs rest : List Placed) → IsStrictlySortedBy pair_cmp (xs ++ rest) → IsStrictlySortedBy pair_cmp rest
rest_rises [] rest h = h
rest_rises (x ∷ xs) rest h = rest_rises xs rest (sorted_tail pair_cmp x (xs ++ rest) h)

pub list_rises : (pieces lists : List (List ℕ)) (at : ℕ) → length pieces ≡ length lists → at < length pieces → IsStrictlySortedBy pair_cmp (pairs_of pieces lists) → IsStrictlySortedBy nat_cmp (get_or lists at [])
list_rises [] lists at same lt h = absurd (omega (arith, lt))
list_rises (p ∷ pieces) [] at same lt h = absurd (omega (arith, same))
list_rises (p ∷ pieces) (l ∷ lists) zero same lt h = places_rise p l (pairs_of pieces lists) h
list_rises (p ∷ pieces) (l ∷ lists) (suc at) same lt h = list_rises pieces lists at (omega (arith, same)) (omega (arith, lt)) (rest_rises (map (with_piece p) l) (pairs_of pieces lists) h)

pub in_pairs : (pieces lists : List (List ℕ)) (at : ℕ) (z : ℕ) → length pieces ≡ length lists → at < length pieces → Contains (get_or lists at []) z → Contains (pairs_of pieces lists) (get_or pieces at [], z)
in_pairs [] lists at z same lt c = absurd (omega (arith, lt))
in_pairs (p ∷ pieces) [] at z same lt c = absurd (omega (arith, same))
in_pairs (p ∷ pieces) (l ∷ lists) zero z same lt c = Contains-append_left (map (with_piece p) l) (pairs_of pieces lists) (p, z) (to_map (with_piece p) l z c)
in_pairs (p ∷ pieces) (l ∷ lists) (suc at) z same lt c = Contains-append_right (map (with_piece p) l) (pairs_of pieces lists) (get_or pieces at [], z) (in_pairs pieces lists at z (omega (arith, same)) (omega (arith, lt)) c)

pub from_pairs : (pieces lists : List (List ℕ)) (w : List ℕ) (z : ℕ) → Contains (pairs_of pieces lists) (w, z) → (at : ℕ) × (at < length pieces) × (get_or pieces at [] ≡ w) × Contains (get_or lists at []) z
from_pairs [] lists w z c = absurd (none_in (w, z) c)
from_pairs (p ∷ pieces) [] w z c = absurd (none_in (w, z) c)
from_pairs (p ∷ pieces) (l ∷ lists) w z c = elim (Contains-append_cases (map (with_piece p) l) (pairs_of pieces lists) (w, z) c) [
  | inl here ↦
      let r = from_map (with_piece p) l (w, z) here in
      let word : p ≡ w = ap (λ (o : Placed). o.0) r.2 in
      let place : r.0 ≡ z = ap (λ (o : Placed). o.1) r.2 in
      (0, omega arith, word, subst (Contains l) place r.1)
  | inr there ↦
      let r = from_pairs pieces lists w z there in
      (suc r.0, omega (arith, r.1), r.2, r.3)
]

-- pieces that rise are each once
pub one_place : (pieces : List (List ℕ)) (i j : ℕ) → IsStrictlySortedBy octets_cmp pieces → i < length pieces → j < length pieces → get_or pieces i [] ≡ get_or pieces j [] → i ≡ j
one_place pieces i j up one other e = elim (cases_lt i j) [
  | inl less ↦ absurd (never (get_or pieces i []) (get_or pieces j []) e (Less-from_sorted octets_cmp pieces i j [] up less other))
  | inr le ↦ elim (cases_lt j i) [
    | inl less ↦ absurd (never (get_or pieces j []) (get_or pieces i []) (sym e) (Less-from_sorted octets_cmp pieces j i [] up less one))
    | inr back ↦ omega arith
  ]
]
  where
    never : (a b : List ℕ) → a ≡ b → octets_cmp a b ≡ Less → ⊥
    never a b same less =
        let equal : octets_cmp a b ≡ Equal = ap (octets_cmp a) (sym same) ∙ tied_itself nat_list_cmp_total a in
        let wrong : Less ≡ Equal = sym less ∙ equal in
        cc

-- ---- which places those are

pub from_range : (n z : ℕ) → Contains (range_with_len 0 n) z → z < n
from_range n z c =
    let size = length-range_with_len 0 n in
    let at = get_or-range_with_len 0 n c.0 z (omega (arith, c.1)) in
    omega (arith, c.1, c.2, at)

to_range : (n z : ℕ) → z < n → Contains (range_with_len 0 n) z
to_range n z lt = (z, omega (arith, length-range_with_len 0 n), get_or-range_with_len 0 n z z lt ∙ omega arith)

pub has : (pieces_in : List ℕ → List (List ℕ)) (piece key : List ℕ) → Decides (has_piece pieces_in piece key) (Contains (pieces_in key) piece)
has pieces_in piece key = is_member-Decides bytes_eq-Decides (pieces_in key) piece

pub where_rises : (test : List ℕ → Bool) (keys : List (List ℕ)) → IsStrictlyIncreasing (places_where test keys)
where_rises test keys = IsStrictlyIncreasing-filter (λ place. test (key_at keys place)) (range_with_len 0 (length keys)) (range_rises (length keys))

-- the places of those that pass are the places of keys that pass
pub where_is : (test : List ℕ → Bool) (keys : List (List ℕ)) (z : ℕ) → Contains (places_where test keys) z ↔ ((z < length keys) × (test (key_at keys z) ≡ true))
where_is test keys z = (
  (λ c. let r = filter_in (λ place. test (key_at keys place)) (range_with_len 0 (length keys)) z c in (from_range (length keys) z r.0, r.1)),
  (λ h. in_filter (λ place. test (key_at keys place)) (range_with_len 0 (length keys)) z (to_range (length keys) z h.0) h.1),
)

occurs : (pieces_in : List ℕ → List (List ℕ)) (keys : List (List ℕ)) (w : List ℕ) (z : ℕ) → Contains (occurrences_from pieces_in 0 keys) (w, z) ↔ Contains (places_where (has_piece pieces_in w) keys) z
occurs pieces_in keys w z = (
  (λ c.
      let r = from_occurrences pieces_in 0 keys w z c in
      let same : r.0 ≡ z = omega (arith, r.2) in
      let there : Contains (pieces_in (key_at keys z)) w = subst (λ n. Contains (pieces_in (get_or keys n [])) w) same r.3 in
      (where_is (has_piece pieces_in w) keys z).1 (omega (arith, r.1, same), (has pieces_in w (key_at keys z)).1 there)),
  (λ c.
      let h = (where_is (has_piece pieces_in w) keys z).0 c in
      let zero_more : 0 + z ≡ z = omega arith in
      subst (λ n. Contains (occurrences_from pieces_in 0 keys) (w, n)) zero_more (to_occurrences pieces_in 0 keys w z h.0 ((has pieces_in w (key_at keys z)).0 h.1))),
)

pub no_members : (xs : List ℕ) → ((z : ℕ) → Contains xs z → ⊥) → xs ≡ []
no_members [] never = refl
no_members (x ∷ xs) never = absurd (never x (at_front x xs))

pub are_placed : (pieces_in : List ℕ → List (List ℕ)) (keys pieces lists : List (List ℕ)) (pairs : List Placed) → AreOccurrences pieces_in keys pairs → length pieces ≡ length lists → pairs_of pieces lists ≡ pairs
    → IsStrictlySortedBy octets_cmp pieces → ArePlaced pieces_in keys pieces lists
are_placed pieces_in keys pieces lists pairs all same are up = record {
  rising = up;
  each = λ at lt.
      let w = get_or pieces at [] in
      let there = places_where (has_piece pieces_in w) keys in
      same_rising (get_or lists at []) there (list_rises pieces lists at same lt (subst (IsStrictlySortedBy pair_cmp) (sym are) all.rising)) (sorted_from_strictly_increasing there (where_rises (has_piece pieces_in w) keys)) (λ z. (
        (λ c. (occurs pieces_in keys w z).0 ((all.each (w, z)).0 (subst (λ l. Contains l (w, z)) are (in_pairs pieces lists at z same lt c)))),
        (λ c.
            let r = from_pairs pieces lists w z (subst (λ l. Contains l (w, z)) (sym are) ((all.each (w, z)).1 ((occurs pieces_in keys w z).1 c))) in
            let one : r.0 ≡ at = one_place pieces r.0 at up r.1 lt r.2 in
            subst (λ n. Contains (get_or lists n []) z) one r.3),
      ));
  others = λ piece never. no_members (places_where (has_piece pieces_in piece) keys) (λ z c.
      let r = from_pairs pieces lists piece z (subst (λ l. Contains l (piece, z)) (sym are) ((all.each (piece, z)).1 ((occurs pieces_in keys piece z).1 c))) in
      never (r.0, r.1, in_place pieces r.0 piece r.1 r.2));
}
  where
    in_place : (pieces : List (List ℕ)) (at : ℕ) (piece : List ℕ) → at < length pieces → get_or pieces at [] ≡ piece → get_or pieces at piece ≡ piece
    in_place pieces at piece lt e = get_or_default pieces at piece [] lt ∙ e

-- ---- a piece looked for

-- those before `low` are below what is looked for, and those from `high` on above it
pub record IsSought (pieces : List (List ℕ)) (wanted : List ℕ) (low high : ℕ) : Type 0 where
  pub fits : high ≤ length pieces
  pub below : (k : ℕ) → k < low → octets_cmp (get_or pieces k []) wanted ≡ Less
  pub above : (k : ℕ) → high ≤ k → k < length pieces → octets_cmp (get_or pieces k []) wanted ≡ Greater

module _ (pieces : List (List ℕ)) (wanted : List ℕ) (up : IsStrictlySortedBy octets_cmp pieces) where
  pub sought_none : IsSought pieces wanted 0 (length pieces)
  sought_none = record { fits = omega arith; below = λ k lt. absurd (omega (arith, lt)); above = λ k le lt. absurd (omega (arith, le, lt)) }

  pub sought_low : (low high middle : ℕ) → IsSought pieces wanted low high → middle < high → octets_cmp (get_or pieces middle []) wanted ≡ Less → IsSought pieces wanted (middle + 1) high
  sought_low low high middle old lt less = record {
    fits = old.fits;
    below = λ k under. elim (cases_lt k middle) [
      | inl before ↦ nat_list_cmp_total.trans (get_or pieces k []) (get_or pieces middle []) wanted (Less-from_sorted octets_cmp pieces k middle [] up before (omega (arith, old.fits, lt))) less
      | inr le ↦ let same : k ≡ middle = omega (arith, under, le) in ap (λ n. octets_cmp (get_or pieces n []) wanted) same ∙ less
    ];
    above = old.above;
  }

  greater_from : (a b : List ℕ) → octets_cmp a b ≡ Greater → octets_cmp b a ≡ Less
  greater_from a b e = nat_list_cmp_total.antisymm b a ∙ ap ordering_reverse e

  less_to : (a b : List ℕ) → octets_cmp a b ≡ Less → octets_cmp b a ≡ Greater
  less_to a b e = nat_list_cmp_total.antisymm b a ∙ ap ordering_reverse e

  pub sought_high : (low high middle : ℕ) → IsSought pieces wanted low high → middle < high → octets_cmp (get_or pieces middle []) wanted ≡ Greater → IsSought pieces wanted low middle
  sought_high low high middle old lt more = record {
    fits = omega (arith, old.fits, lt);
    below = old.below;
    above = λ k le inside. elim (cases_lt middle k) [
      | inl behind ↦ less_to wanted (get_or pieces k []) (nat_list_cmp_total.trans wanted (get_or pieces middle []) (get_or pieces k []) (greater_from (get_or pieces middle []) wanted more)
          (Less-from_sorted octets_cmp pieces middle k [] up behind inside))
      | inr back ↦ let same : k ≡ middle = omega (arith, le, back) in ap (λ n. octets_cmp (get_or pieces n []) wanted) same ∙ more
    ];
  }

  pub sought_all : (low high : ℕ) → IsSought pieces wanted low high → high ≤ low → Contains pieces wanted → ⊥
  sought_all low high old le c =
      let is : get_or pieces c.0 [] ≡ wanted = get_or_default pieces c.0 [] wanted c.1 ∙ c.2 in
      let equal : octets_cmp (get_or pieces c.0 []) wanted ≡ Equal = ap (λ a. octets_cmp a wanted) is ∙ tied_itself nat_list_cmp_total wanted in
      elim (cases_lt c.0 low) [
        | inl less ↦ let wrong : Less ≡ Equal = sym (old.below c.0 less) ∙ equal in absurd (cc)
        | inr more ↦ let wrong : Greater ≡ Equal = sym (old.above c.0 (omega (arith, le, more)) c.1) ∙ equal in absurd (cc)
      ]

pub found_at : (pieces : List (List ℕ)) (wanted : List ℕ) (at : ℕ) → octets_cmp (get_or pieces at []) wanted ≡ Equal → get_or pieces at [] ≡ wanted
found_at pieces wanted at e = exact_bytes (get_or pieces at []) wanted e

-- ---- what two lists of places have in common

pub in_common : (p q : List ℕ → Bool) (keys : List (List ℕ)) (test : ℕ → Bool) → ((z : ℕ) → Decides (test z) (Contains (places_where q keys) z)) → filter test (places_where p keys) ≡ places_where (λ key. p key && q key) keys
in_common p q keys test is =
    let both : List ℕ → Bool = λ key. p key && q key in
    let mine = places_where p keys in
    same_rising (filter test mine) (places_where both keys)
    (sorted_from_strictly_increasing (filter test mine) (IsStrictlyIncreasing-filter test mine (where_rises p keys)))
    (sorted_from_strictly_increasing (places_where both keys) (where_rises both keys))
    (λ z. (
      (λ c.
          let r = filter_in test mine z c in
          let one = (where_is p keys z).0 r.0 in
          let other = (where_is q keys z).0 ((is z).0 r.1) in
          (where_is both keys z).1 (one.0, and_true (p (key_at keys z)) (q (key_at keys z)) one.1 other.1)),
      (λ c.
          let r = (where_is both keys z).0 c in
          let parts = true_and (p (key_at keys z)) (q (key_at keys z)) r.1 in
          in_filter test mine z ((where_is p keys z).1 (r.0, parts.0)) ((is z).1 ((where_is q keys z).1 (r.0, parts.1)))),
    ))
  where
    and_true : (a b : Bool) → a ≡ true → b ≡ true → (a && b) ≡ true
    and_true a b e f = ap (λ x. x && b) e ∙ f

    true_and : (a b : Bool) → (a && b) ≡ true → (a ≡ true) × (b ≡ true)
    true_and true b e = (refl, e)
    true_and false b e = absurd (false≢true e)

-- ---- the grouping of all

pub goes_none : (pairs : List Placed) (pieces lists : List (List ℕ)) → pieces ≡ [] → lists ≡ [] → GoesOnGrouping pairs 0 pieces lists
goes_none pairs pieces lists one two =
    subst (λ l. GoesOnGrouping pairs 0 l lists) (sym one) (subst (GoesOnGrouping pairs 0 []) (sym two) (record { same = refl; grouped = λ up. none_grouped pairs }))

pub goes_on : (pairs : List Placed) (i : ℕ) (pieces lists pieces' lists' : List (List ℕ)) (q : Placed) → i < length pairs → q ≡ get_or pairs i q → GoesOnGrouping pairs i pieces lists
    → pairs_of pieces' lists' ≡ pairs_of pieces lists ++ q ∷ [] → pieces' ≡ cond (ends_with_piece pieces q.0) pieces (pieces ++ q.0 ∷ []) → length pieces' ≡ length lists' → GoesOnGrouping pairs (i + 1) pieces' lists'
goes_on pairs i pieces lists pieces' lists' q lt at old put is same = record { same = same; grouped = λ up. next_grouped pairs i pieces lists pieces' lists' q up lt at (old.grouped up) put is same }

pub all_grouped : (pieces_in : List ℕ → List (List ℕ)) (keys pieces lists : List (List ℕ)) (pairs : List Placed) (i : ℕ) → length pairs ≤ i → GoesOnGrouping pairs i pieces lists → AreOccurrences pieces_in keys pairs
    → ArePlaced pieces_in keys pieces lists
all_grouped pieces_in keys pieces lists pairs i past old all =
    let h = old.grouped all.rising in
    are_placed pieces_in keys pieces lists pairs all h.same (h.are ∙ take_all i pairs past) h.rising

-- the pair at an index of what a list stands for
pub row_at : {X : Type 0} (row : X → Placed) (xs : List X) (i : ℕ) (d : X) → i < length xs → (i < length (map row xs)) × (row (get_or xs i d) ≡ get_or (map row xs) i (row (get_or xs i d)))
row_at row xs i d lt = (omega (arith, lt, length-map xs row), sym (get_or-map row xs i d (row (get_or xs i d)) lt))

same_to_true : (a b : ℕ) → a ≡ b → nat_eq a b ≡ true
same_to_true a b e = grind (arith, nat_tests)

true_to_same : (a b : ℕ) → nat_eq a b ≡ true → a ≡ b
true_to_same a b e = grind (arith, nat_tests)

nat_eq_tells : (a b : ℕ) → Decides (nat_eq a b) (a ≡ b)
nat_eq_tells a b = (true_to_same a b, same_to_true a b)

pub among : (more : List ℕ) (q : List ℕ → Bool) (keys : List (List ℕ)) (z : ℕ) → more ≡ places_where q keys → Decides (list_any (nat_eq z) more) (Contains (places_where q keys) z)
among more q keys z is =
    let tells : Decides (list_any (nat_eq z) more) (Contains more z) = is_member-Decides nat_eq_tells more z in
    subst (λ l. Decides (list_any (nat_eq z) more) (Contains l z)) is tells

-- one place more of those that are among others
pub more_among : (p : ℕ → Bool) (xs old new : List ℕ) (i x : ℕ) (b : Bool) → i < length xs → x ≡ get_or xs i 0 → p x ≡ b → old ≡ filter p (take i xs) → new ≡ old ++ cond b (x ∷ []) [] → new ≡ filter p (take (i + 1) xs)
more_among p xs old new i x b lt at tells before is =
    is ∙ ap (λ l. l ++ cond b (x ∷ []) []) before
    ∙ ap (λ t. filter p (take i xs) ++ cond t (x ∷ []) []) (sym tells)
    ∙ ap (λ y. filter p (take i xs) ++ cond (p y) (y ∷ []) []) at
    ∙ sym (filter_more p xs i 0 lt)
