-- The sorted places, cut at both ends of what is looked for.
use Rattle.std.proofs.Common.{◌≡◌, ℕ, ◌+◌, ◌-◌, ◌<◌, ◌≤◌, Bool, true, false, ◌&&◌, List, [], map, reverse, length, take, drop, get_or, filter, inl, inr, refl, ap, sym, ◌∙◌, subst, arith}
use Rattle.std.specs.Cmp.{IsTotalOrder}
use Rattle.std.specs.declared.cmp.Ordering.{Ordering}
use Rattle.std.specs.declared.cmp.Ordering.TheVariants.{Less, Equal, Greater}
use Rattle.std.specs.Ordering.{is_lt, is_le, is_gt, is_eq, ordering_then, ordering_reverse, nat_cmp}
use Rattle.std.specs.List.Sorted.{IsSorted, IsPartitionedBy, IsPartitionPoint}
use Rattle.std.specs.Str.{bytes_eq}
use Rattle.std.specs.List.{range_with_len}
use Rattle.std.proofs.lemmas.Bool.{false≢true, cases_lt}
use Rattle.std.proofs.lemmas.List.Elements.{filter_agree}
use Rattle.std.proofs.lemmas.Cmp.{nat_cmp_total, nat_list_cmp_total, on_total, then_total, upto}
use Rattle.std.proofs.lemmas.List.{get_or-drop, get_or-take, get_or-map, get_or_past, length-drop, length-map, length-take, length-take-le}
use Rattle.std.proofs.lemmas.List.Sorted.{ranks_by, sorted_far}
use Rattle.std.proofs.lemmas.Map.Text.{is_eq-slice_cmp}
use Rattle.store_derived.specs.Derived.{octets_cmp}
use Rattle.store_places.specs.Places.{key_at, places_where}
use Rattle.store_places.specs.Orders.{place_cmp, is_between}
use Rattle.store_places.proofs.ListLemmas.{the_run}

pub place_total : (keys : List (List ℕ)) → IsTotalOrder (place_cmp keys)
place_total keys = then_total (on_total (key_at keys) nat_list_cmp_total) nat_cmp_total

-- ---- the answers of an order

first_of_both : (o s : Ordering) → is_lt (ordering_then o s) ≡ false → is_lt o ≡ false
first_of_both Less s h = h
first_of_both Equal s h = refl
first_of_both Greater s h = refl

gt_back : (o : Ordering) → is_gt (ordering_reverse o) ≡ is_lt o
gt_back Less = refl
gt_back Equal = refl
gt_back Greater = refl

le_from_gt : (o : Ordering) → is_gt o ≡ false → is_le o ≡ true
le_from_gt Less h = refl
le_from_gt Equal h = refl
le_from_gt Greater h = sym h

gt_from_le : (o : Ordering) → is_le o ≡ true → is_gt o ≡ false
gt_from_le Less h = refl
gt_from_le Equal h = refl
gt_from_le Greater h = sym h

le_none : (o : Ordering) → is_gt o ≡ true → is_le o ≡ false
le_none Less h = sym h
le_none Equal h = sym h
le_none Greater h = refl

both_ways : (o : Ordering) → (is_le (ordering_reverse o) && is_le o) ≡ is_eq o
both_ways Less = refl
both_ways Equal = refl
both_ways Greater = refl

turned : (a b : List ℕ) → is_gt (octets_cmp a b) ≡ is_lt (octets_cmp b a)
turned a b = ap is_gt (nat_list_cmp_total.antisymm a b) ∙ gt_back (octets_cmp b a)

before_too : (x y low : List ℕ) → is_gt (octets_cmp x y) ≡ false → is_lt (octets_cmp y low) ≡ true → is_lt (octets_cmp x low) ≡ true
before_too x y low le h = by (is_lt (octets_cmp x low)) refl
  where
    by : (b : Bool) → is_lt (octets_cmp x low) ≡ b → is_lt (octets_cmp x low) ≡ true
    by true e = e
    by false e = absurd (false≢true (sym (upto nat_list_cmp_total low x y (turned low x ∙ e) le) ∙ (turned low y ∙ h)))

up_to_too : (x y high : List ℕ) → is_gt (octets_cmp x y) ≡ false → is_le (octets_cmp y high) ≡ true → is_le (octets_cmp x high) ≡ true
up_to_too x y high le h = le_from_gt (octets_cmp x high) (upto nat_list_cmp_total x y high le (gt_from_le (octets_cmp y high) h))

pub exact_between : (key other : List ℕ) → is_between key key other ≡ bytes_eq other key
exact_between key other =
    ap (λ o. is_le o && is_le (octets_cmp other key)) (nat_list_cmp_total.antisymm key other)
    ∙ both_ways (octets_cmp other key)
    ∙ is_eq-slice_cmp other key

-- ---- where the sorted places are cut

abbrev pub before : List (List ℕ) → List ℕ → ℕ → Bool
before keys low place = is_lt (octets_cmp (key_at keys place) low)

abbrev pub up_to : List (List ℕ) → List ℕ → ℕ → Bool
up_to keys high place = is_le (octets_cmp (key_at keys place) high)

rises : (keys : List (List ℕ)) (xs : List ℕ) → IsSorted (place_cmp keys) xs → (i j : ℕ) (d : ℕ) → i ≤ j → j < length xs → is_gt (octets_cmp (key_at keys (get_or xs i d)) (key_at keys (get_or xs j d))) ≡ false
rises keys xs up i j d le lt =
    let x = get_or xs i d in
    let y = get_or xs j d in
    let far : is_lt (place_cmp keys y x) ≡ false = sorted_far (λ a b. is_lt (place_cmp keys a b)) (ranks_by (place_total keys) (λ a. a)) xs up i j d le lt in
    turned (key_at keys x) (key_at keys y) ∙ first_of_both (octets_cmp (key_at keys y) (key_at keys x)) (nat_cmp y x) far

pub parted_before : (keys : List (List ℕ)) (xs : List ℕ) (low : List ℕ) → IsSorted (place_cmp keys) xs → IsPartitionedBy (before keys low) xs
parted_before keys xs low up i j d le lt h = before_too (key_at keys (get_or xs i d)) (key_at keys (get_or xs j d)) low (rises keys xs up i j d le lt) h

pub parted_up_to : (keys : List (List ℕ)) (xs : List ℕ) (from : ℕ) (high : List ℕ) → IsSorted (place_cmp keys) xs → IsPartitionedBy (up_to keys high) (drop from xs)
parted_up_to keys xs from high up i j d le lt h =
    let size = length-drop from xs in
    let one : get_or (drop from xs) i d ≡ get_or xs (from + i) d = get_or-drop from xs i d in
    let two : get_or (drop from xs) j d ≡ get_or xs (from + j) d = get_or-drop from xs j d in
    subst (λ x. up_to keys high x ≡ true) (sym one)
    (up_to_too (key_at keys (get_or xs (from + i) d)) (key_at keys (get_or xs (from + j) d)) high (rises keys xs up (from + i) (from + j) d (omega arith) (omega arith)) (subst (λ y. up_to keys high y ≡ true) two h))

-- Of places of which those up to the end come first, a part is looked at; the one behind it is past the end.
module _ (p : ℕ → Bool) (xs : List ℕ) (parted : IsPartitionedBy p xs) (near count : ℕ) (past : (d : ℕ) → near < length xs → p (get_or xs near d) ≡ false) where
  none_behind : (k d : ℕ) → near ≤ k → k < length xs → p (get_or xs k d) ≡ false
  none_behind k d le lt = by (p (get_or xs k d)) refl
    where
      by : (b : Bool) → p (get_or xs k d) ≡ b → p (get_or xs k d) ≡ false
      by false e = e
      by true e = absurd (false≢true (sym (past d (omega (arith, le, lt))) ∙ parted near k d le lt e))

  pub near_point : near ≤ length xs → count ≤ near → IsPartitionPoint (λ y. p y ≡ true) (λ y. p y ≡ false) (take near xs) count → IsPartitionPoint (λ y. p y ≡ true) (λ y. p y ≡ false) xs count
  near_point within few point =
      let size : length (take near xs) ≡ near = length-take-le near xs within in (
        (λ k d low below.
            let inside : k < near = omega (arith, below, few) in
            subst (λ x. p x ≡ true) (get_or-take near xs k d inside) (point.0 k d low below)),
        (λ k d above lt. elim (cases_lt k near) [
          | inl inside ↦ subst (λ x. p x ≡ false) (get_or-take near xs k d inside) (point.1 k d above (omega (arith, inside, size)))
          | inr le ↦ none_behind k d le lt
        ]),
      )

pub parted_near : (p : ℕ → Bool) (xs : List ℕ) (near : ℕ) → near ≤ length xs → IsPartitionedBy p xs → IsPartitionedBy p (take near xs)
parted_near p xs near within parted i j d le lt h =
    let size : length (take near xs) ≡ near = length-take-le near xs within in
    let last : j < near = omega (arith, lt, size) in
    let first : i < near = omega (arith, le, last) in
    subst (λ x. p x ≡ true) (sym (get_or-take near xs i d first)) (parted i j d le (omega (arith, last, within)) (subst (λ x. p x ≡ true) (get_or-take near xs j d last) h))

pub parted_far : (p : ℕ → Bool) (xs : List ℕ) (from : ℕ) → IsPartitionedBy p xs → IsPartitionedBy p (drop from xs)
parted_far p xs from parted i j d le lt h =
    let size = length-drop from xs in
    let one : get_or (drop from xs) i d ≡ get_or xs (from + i) d = get_or-drop from xs i d in
    let two : get_or (drop from xs) j d ≡ get_or xs (from + j) d = get_or-drop from xs j d in
    subst (λ x. p x ≡ true) (sym one) (parted (from + i) (from + j) d (omega arith) (omega arith) (subst (λ x. p x ≡ true) two h))

-- The same of a part behind others, of which the last one passes.
pub far_point : (p : ℕ → Bool) (xs : List ℕ) (first count : ℕ) → IsPartitionedBy p xs → ((d : ℕ) → 0 < first → p (get_or xs (first - 1) d) ≡ true) → first ≤ length xs
    → IsPartitionPoint (λ y. p y ≡ true) (λ y. p y ≡ false) (drop first xs) count
    → IsPartitionPoint (λ y. p y ≡ true) (λ y. p y ≡ false) xs (first + count)
far_point p xs first count parted front within point =
    let size = length-drop first xs in (
      (λ k d low below. elim (cases_lt k first) [
        | inl less ↦ parted k (first - 1) d (omega (arith, less)) (omega (arith, less, within)) (front d (omega (arith, less)))
        | inr le ↦ at_rest (λ x. p x ≡ true) k d le (point.0 (k - first) d (omega arith) (omega (arith, below, le)))
      ]),
      (λ k d above lt.
          let le : first ≤ k = omega (arith, above) in
          at_rest (λ x. p x ≡ false) k d le (point.1 (k - first) d (omega (arith, above)) (omega (arith, lt, le, size)))),
    )
  where
    at_rest : (P : ℕ → Type 0) (k d : ℕ) → first ≤ k → P (get_or (drop first xs) (k - first) d) → P (get_or xs k d)
    at_rest P k d le h =
        let there : get_or (drop first xs) (k - first) d ≡ get_or xs (first + (k - first)) d = get_or-drop first xs (k - first) d in
        let same : first + (k - first) ≡ k = omega (arith, le) in
        subst (λ n. P (get_or xs n d)) same (subst P there h)

first_fails : (a b : Bool) → a ≡ false → (a && b) ≡ false
first_fails a b e = ap (λ x. x && b) e

second_fails : (a b : Bool) → b ≡ false → (a && b) ≡ false
second_fails true b e = e
second_fails false b e = refl

both_pass : (a b : Bool) → a ≡ true → b ≡ true → (a && b) ≡ true
both_pass a b e f = ap (λ x. x && b) e ∙ f

abbrev test : List (List ℕ) → List ℕ → List ℕ → ℕ → Bool
test keys low high place = is_between low high (key_at keys place)

pub run_is : (keys : List (List ℕ)) (xs : List ℕ) (low high : List ℕ) (from count : ℕ) → from ≤ length xs → count ≤ length (drop from xs)
    → IsPartitionPoint (λ y. before keys low y ≡ true) (λ y. before keys low y ≡ false) xs from
    → IsPartitionPoint (λ y. up_to keys high y ≡ true) (λ y. up_to keys high y ≡ false) (drop from xs) count
    → take count (drop from xs) ≡ filter (λ place. is_between low high (key_at keys place)) xs
run_is keys xs low high from count in_xs in_rest first second =
    the_run (test keys low high) xs from count
    (λ k d lt.
    let size = length-take from xs in
    let in_from : k < from = omega arith in
    subst (λ x. test keys low high x ≡ false) (sym (get_or-take from xs k d in_from)) (fails_low (get_or xs k d) (first.0 k d (omega arith) in_from)))
    (λ k d lt.
    let size = length-take count (drop from xs) in
    let in_count : k < count = omega arith in
    let size_rest = length-drop from xs in
    let e : get_or (drop from xs) k d ≡ get_or xs (from + k) d = get_or-drop from xs k d in
    subst (λ x. test keys low high x ≡ true) (sym (get_or-take count (drop from xs) k d in_count))
    (passes (get_or (drop from xs) k d) (subst (λ x. before keys low x ≡ false) (sym e) (first.1 (from + k) d (omega arith) (omega arith))) (second.0 k d (omega arith) in_count)))
    (λ k d lt.
    let size = length-drop count (drop from xs) in
    let e : get_or (drop count (drop from xs)) k d ≡ get_or (drop from xs) (count + k) d = get_or-drop count (drop from xs) k d in
    subst (λ x. test keys low high x ≡ false) (sym e) (fails_high (get_or (drop from xs) (count + k) d) (second.1 (count + k) d (omega arith) (omega arith))))
  where
    fails_low : (place : ℕ) → before keys low place ≡ true → is_between low high (key_at keys place) ≡ false
    fails_low place h = first_fails (is_le (octets_cmp low (key_at keys place))) (is_le (octets_cmp (key_at keys place) high)) (le_none (octets_cmp low (key_at keys place)) (turned low (key_at keys place) ∙ h))

    fails_high : (place : ℕ) → up_to keys high place ≡ false → is_between low high (key_at keys place) ≡ false
    fails_high place h = second_fails (is_le (octets_cmp low (key_at keys place))) (is_le (octets_cmp (key_at keys place) high)) h

    passes : (place : ℕ) → before keys low place ≡ false → up_to keys high place ≡ true → is_between low high (key_at keys place) ≡ true
    passes place h l = both_pass (is_le (octets_cmp low (key_at keys place))) (is_le (octets_cmp (key_at keys place) high)) (le_from_gt (octets_cmp low (key_at keys place)) (turned low (key_at keys place) ∙ h)) l

-- ---- keys that are read from behind

pub read_reversed : (keys : List (List ℕ)) (place : ℕ) → key_at (map reverse keys) place ≡ reverse (key_at keys place)
read_reversed keys place = elim (cases_lt place (length keys)) [
  | inl less ↦ get_or-map reverse keys place [] [] less
  | inr le ↦
      let size = length-map keys (reverse {A = ℕ}) in
      get_or_past (map reverse keys) place [] (omega (arith, size)) ∙ sym (ap reverse (get_or_past keys place [] le))
]

pub where_reversed : (test : List ℕ → Bool) (keys : List (List ℕ)) → places_where test (map reverse keys) ≡ places_where (λ key. test (reverse key)) keys
where_reversed test keys =
    ap (λ n. filter (λ place. test (key_at (map reverse keys) place)) (range_with_len 0 n)) (length-map keys (reverse {A = ℕ}))
    ∙ filter_agree _ _ (λ place. ap test (read_reversed keys place)) (range_with_len 0 (length keys))
