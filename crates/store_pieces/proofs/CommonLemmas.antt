-- Places that rise, looked on from where the former one was found.
use Rattle.std.proofs.Common.{◌≡◌, ℕ, suc, ◌+◌, ◌<◌, ◌≤◌, Bool, true, false, cond, not, ◌||◌, List, [], ◌∷◌, ◌++◌, take, drop, length, get_or, filter, refl, ap, sym, ◌∙◌, subst, arith, nat_eq, nat_lt}
use Rattle.std.specs.Ordering.{nat_cmp}
use Rattle.std.specs.List.{Contains, list_any}
use Rattle.std.specs.List.Sorted.{IsStrictlyIncreasing, IsStrictlySortedBy, IsPartitionedBy, IsPartitionPoint}
use Rattle.std.proofs.lemmas.Bool.Decides.{nat_tests}
use Rattle.std.proofs.lemmas.List.{get_or-drop, get_or-take, length-drop, length-take, take_all}
use Rattle.std.proofs.lemmas.List.Kept.{IsStrictlyIncreasing-filter}
use Rattle.std.proofs.lemmas.Map.Keys.{non_decreasing_from_sorted, sorted_from_strictly_increasing, below_from_sorted}
use Rattle.store_pieces.specs.Common.{is_below, is_place_from, begins_by}
use Rattle.store_places.proofs.ListLemmas.{the_run, behind, at_front, filter_in}
use Rattle.store_pieces.proofs.PieceLemmas.{more_among}

-- ---- those from a place on

less_too : (a b c : ℕ) → a ≤ b → nat_lt b c ≡ true → nat_lt a c ≡ true
less_too a b c le h = grind (arith, nat_tests)

pub below_first : (xs : List ℕ) (place : ℕ) → IsStrictlyIncreasing xs → IsPartitionedBy (is_below place) xs
below_first xs place up i j d le lt h = less_too (get_or xs i d) (get_or xs j d) place (non_decreasing_from_sorted xs (sorted_from_strictly_increasing xs up) i j d le lt) h

pub from_is : (xs : List ℕ) (place count : ℕ) → count ≤ length xs → IsPartitionPoint (λ y. is_below place y ≡ true) (λ y. is_below place y ≡ false) xs count → drop count xs ≡ filter (is_place_from place) xs
from_is xs place count fits point =
    let rest = drop count xs in
    let size_rest = length-drop count xs in
    let all : take (length rest) rest ≡ rest = take_all (length rest) rest (omega arith) in
    sym all ∙ the_run (is_place_from place) xs count (length rest)
    (λ k d lt.
    let size = length-take count xs in
    let inside : k < count = omega (arith, lt, size) in
    subst (λ x. is_place_from place x ≡ false) (sym (get_or-take count xs k d inside)) (ap not (point.0 k d (omega arith) inside)))
    (λ k d lt.
    let inside : k < length rest = subst (λ l. k < length l) all lt in
    subst (λ l. is_place_from place (get_or l k d) ≡ true) (sym all) (subst (λ x. is_place_from place x ≡ true) (sym (get_or-drop count xs k d)) (ap not (point.1 (count + k) d (omega arith) (omega (arith, inside, size_rest, fits))))))
    (λ k d lt.
    let none = length-drop (length rest) rest in
    absurd (omega (arith, lt, none)))

-- ---- what is among those from a place on

not_same : (x y z : ℕ) → x ≤ y → nat_lt z x ≡ true → nat_eq y z ≡ false
not_same x y z le h = grind (arith, nat_tests)

other : (x z : ℕ) → x < z → nat_eq x z ≡ false
other x z h = grind (arith, nat_tests)

turned : (x z : ℕ) → nat_eq x z ≡ nat_eq z x
turned x z = grind (arith, nat_tests)

up_from : (x z : ℕ) → is_place_from x z ≡ true → x ≤ z
up_from x z h = grind (arith, nat_tests)

or_none : (a : Bool) → (a || false) ≡ a
or_none true = refl
or_none false = refl

any_from : (y x : ℕ) (xs : List ℕ) → x ≤ y → list_any (nat_eq y) (filter (is_place_from x) xs) ≡ list_any (nat_eq y) xs
any_from y x [] le = refl
any_from y x (z ∷ zs) le = by (nat_lt z x) refl (any_from y x zs le)
  where
    by : (b : Bool) → nat_lt z x ≡ b → list_any (nat_eq y) (filter (is_place_from x) zs) ≡ list_any (nat_eq y) zs → list_any (nat_eq y) (cond (not b) (z ∷ filter (is_place_from x) zs) (filter (is_place_from x) zs))
        ≡ list_any (nat_eq y) (z ∷ zs)
    by true e same = same ∙ ap (λ b. b || list_any (nat_eq y) zs) (sym (not_same x y z le e))
    by false e same = ap (λ b. nat_eq y z || b) same

none_any : (x : ℕ) (xs : List ℕ) → ((z : ℕ) → Contains xs z → x < z) → list_any (nat_eq x) xs ≡ false
none_any x [] above = refl
none_any x (z ∷ zs) above = ap (λ b. b || list_any (nat_eq x) zs) (other x z (above z (at_front z zs))) ∙ none_any x zs (λ w c. above w (suc c.0, omega (arith, c.1), c.2))

any_first : (x : ℕ) (xs : List ℕ) → IsStrictlySortedBy nat_cmp xs → ((z : ℕ) → Contains xs z → x ≤ z) → list_any (nat_eq x) xs ≡ begins_by x xs
any_first x [] up from = refl
any_first x (z ∷ zs) up from =
    let first : x ≤ z = from z (at_front z zs) in
    ap (λ b. nat_eq x z || b) (none_any x zs (λ w c. omega (arith, first, behind z zs w up c))) ∙ or_none (nat_eq x z) ∙ turned x z

-- ---- place by place

pub record GoesOn (fewer more : List ℕ) (i : ℕ) (rest both : List ℕ) : Type 0 where
  pub rises : IsStrictlyIncreasing rest
  pub same : (k : ℕ) → i ≤ k → k < length fewer → list_any (nat_eq (get_or fewer k 0)) rest ≡ list_any (nat_eq (get_or fewer k 0)) more
  pub both_are : both ≡ filter (λ place. list_any (nat_eq place) more) (take i fewer)

pub none_gone : (fewer more rest both : List ℕ) → IsStrictlyIncreasing more → rest ≡ more → both ≡ [] → GoesOn fewer more 0 rest both
none_gone fewer more rest both up is none = record {
  rises = subst IsStrictlyIncreasing (sym is) up;
  same = λ k le lt. ap (list_any (nat_eq (get_or fewer k 0))) is;
  both_are = none;
}

pub one_gone : (fewer more : List ℕ) (i x : ℕ) (rest rest' both both' : List ℕ) (b : Bool) → IsStrictlyIncreasing fewer → GoesOn fewer more i rest both → i < length fewer → x ≡ get_or fewer i 0
    → rest' ≡ filter (is_place_from x) rest → b ≡ begins_by x rest' → both' ≡ both ++ cond b (x ∷ []) [] → GoesOn fewer more (i + 1) rest' both'
one_gone fewer more i x rest rest' both both' b up old lt at is tells put =
    let p : ℕ → Bool = λ place. list_any (nat_eq place) more in
    let left = filter (is_place_from x) rest in
    let rises : IsStrictlyIncreasing left = IsStrictlyIncreasing-filter (is_place_from x) rest old.rises in
    let first : list_any (nat_eq x) left ≡ begins_by x left = any_first x left (sorted_from_strictly_increasing left rises) (λ z c. up_from x z (filter_in (is_place_from x) rest z c).1) in
    let among : p x ≡ b =
    ap p at ∙ sym (old.same i (omega arith) lt) ∙ ap (λ y. list_any (nat_eq y) rest) (sym at) ∙ sym (any_from x x rest (omega arith)) ∙ first ∙ ap (begins_by x) (sym is) ∙ sym tells in
    record {
      rises = subst IsStrictlyIncreasing (sym is) rises;
      same = λ k le within.
          let above : x ≤ get_or fewer k 0 = omega (arith, at, below_from_sorted fewer i k 0 (sorted_from_strictly_increasing fewer up) (omega (arith, le)) within) in
          ap (list_any (nat_eq (get_or fewer k 0))) is ∙ any_from (get_or fewer k 0) x rest above ∙ old.same k (omega (arith, le)) within;
      both_are = more_among p fewer both both' i x b lt at among old.both_are put;
    }
