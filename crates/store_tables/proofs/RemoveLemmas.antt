-- Taking rows out of a list by their rowids.
use Rattle.std.proofs.Common.{◌≡◌, ℤ, List, [], ◌∷◌, map, filter, Bool, true, false, not, ◌&&◌, ◌||◌, inl, inr, refl, sym, ap, ◌∙◌, Ordering, Less, Equal, Greater}
use Rattle.std.proofs.lemmas.Bool.{cases_Bool}
use Rattle.std.proofs.lemmas.List.Sorted.{list_any-IsPermutation, IsPermutation-sym}
use Rattle.std.specs.List.{AllByRecursion, IsDistinct, list_any}
use Rattle.std.specs.List.Sorted.{IsPermutation}
use Rattle.std.specs.Ordering.{is_eq, ordering_reverse}
use Rattle.std.specs.Cmp.{tied_itself}
use Rattle.store_tables.proofs.KitLemmas.{all_from, all_has, value_cmp_total}
use Rattle.sqlite.specs.declared.types.Value.{Value}
use Rattle.sqlite.specs.declared.types.Value.TheVariants.{Int}
use Rattle.sqlite.specs.Order.{Row, column, value_cmp}
use Rattle.sqlite.specs.Tree.{rowid, has_rowid, without_rowid}
use Rattle.sqlite_rules.specs.Edit.{id_in, without_all}
use Rattle.store_tables.specs.Effects.{same_value, HasApartRowids}

-- ---- lists

pub all_pass : {X : Type 0} (rows : List X) → filter (λ _. true) rows ≡ rows
all_pass [] = refl
all_pass (r ∷ rows) = ap (λ rest. r ∷ rest) (all_pass rows)

pub both_all : {X : Type 0} (P Q R : X → Type 0) → ((x : X) → P x → Q x → R x) → (xs : List X) → AllByRecursion P xs → AllByRecursion Q xs → AllByRecursion R xs
both_all P Q R f xs p q = all_from R xs (λ x listed. f x (all_has P xs x p listed) (all_has Q xs x q listed))

pub all_map : {X Y : Type 0} (f : X → Y) (P : Y → Type 0) (xs : List X) → AllByRecursion P (map f xs) → AllByRecursion (λ x. P (f x)) xs
all_map f P [] h = tt
all_map f P (x ∷ xs) h = (h.0, all_map f P xs h.1)

filter_twice : {X : Type 0} (p q : X → Bool) (xs : List X) → filter q (filter p xs) ≡ filter (λ x. p x && q x) xs
filter_twice p q [] = refl
filter_twice p q (x ∷ xs) = elim (cases_Bool (p x)) [
  | inl passed ↦ elim (cases_Bool (q x)) [
    | inl both ↦ rw (passed, both) (ap (λ rest. x ∷ rest) (filter_twice p q xs))
    | inr one ↦ rw (passed, one) (filter_twice p q xs)
  ]
  | inr missed ↦ rw missed (filter_twice p q xs)
]

pub filter_all : {X : Type 0} (p q : X → Bool) (xs : List X) → AllByRecursion (λ x. p x ≡ q x) xs → filter p xs ≡ filter q xs
filter_all p q [] h = refl
filter_all p q (x ∷ xs) h = elim (cases_Bool (q x)) [
  | inl passed ↦ rw (h.0, passed) (ap (λ rest. x ∷ rest) (filter_all p q xs h.1))
  | inr missed ↦ rw (h.0, missed) (filter_all p q xs h.1)
]

not_or : (a b : Bool) → (not a && not b) ≡ not (a || b)
not_or true b = refl
not_or false b = refl

-- ---- without the rows of some rowids

abbrev pub is_one_of : List ℤ → Row → Bool
is_one_of ids r = list_any (λ id. has_rowid id r) ids

pub without_are : (ids : List ℤ) (rows : List Row) → without_all rows ids ≡ filter (λ r. not (is_one_of ids r)) rows
without_are [] rows = sym (all_pass rows)
without_are (id ∷ ids) rows =
    without_are ids (without_rowid id rows) ∙ filter_twice (λ r. not (has_rowid id r)) (λ r. not (is_one_of ids r)) rows ∙ filter_all _ _ rows (all_from _ rows (λ r listed. not_or (has_rowid id r) (is_one_of ids r)))

-- ---- the rows that are chosen are those that go

abbrev IsNumbered : Row → Type 0
IsNumbered r = (n : ℤ) × (column r 0 ≡ Int n)

abbrev is_row : Row → Row → Bool
is_row c r = has_rowid (id_in (rowid c)) r

is_row-same : (c r : Row) → IsNumbered c → is_row c r ≡ same_value (column r 0) (column c 0)
is_row-same c r n = rw n.1 refl

flipped : (o : Ordering) → is_eq (ordering_reverse o) ≡ is_eq o
flipped Less = refl
flipped Equal = refl
flipped Greater = refl

pub same_flips : (a b : Value) → same_value a b ≡ same_value b a
same_flips a b = ap is_eq (value_cmp_total.antisymm a b) ∙ flipped (value_cmp b a)

is_itself : (r : Row) → IsNumbered r → is_row r r ≡ true
is_itself r n = is_row-same r r n ∙ ap is_eq (tied_itself value_cmp_total (column r 0))

module _ (p : Row → Bool) where
  none_of : (x : Row) (xs : List Row) → AllByRecursion IsNumbered xs → AllByRecursion (λ y. same_value (column x 0) y ≡ false) (map (λ r. column r 0) xs) → list_any (λ c. is_row c x) (filter p xs) ≡ false
  none_of x [] n other = refl
  none_of x (y ∷ xs) n other = elim (cases_Bool (p y)) [
    | inl passed ↦ rw (passed, is_row-same y x n.0, other.0) (none_of x xs n.1 other.1)
    | inr missed ↦ rw missed (none_of x xs n.1 other.1)
  ]

  still : (x r : Row) (xs : List Row) → IsNumbered x → same_value (column r 0) (column x 0) ≡ false → list_any (λ c. is_row c r) (filter p (x ∷ xs)) ≡ list_any (λ c. is_row c r) (filter p xs)
  still x r xs n other = elim (cases_Bool (p x)) [
    | inl passed ↦ rw (passed, is_row-same x r n, other) refl
    | inr missed ↦ rw missed refl
  ]

  others_too : (x : Row) (xs : List Row) → IsNumbered x → (rows : List Row) → AllByRecursion (λ y. same_value (column x 0) y ≡ false) (map (λ r. column r 0) rows) → AllByRecursion (λ r. list_any (λ c. is_row c r) (filter p xs) ≡ p r) rows
      → AllByRecursion (λ r. list_any (λ c. is_row c r) (filter p (x ∷ xs)) ≡ p r) rows
  others_too x xs n rows other so_far =
      both_all (λ r. same_value (column x 0) (column r 0) ≡ false) (λ r. list_any (λ c. is_row c r) (filter p xs) ≡ p r) (λ r. list_any (λ c. is_row c r) (filter p (x ∷ xs)) ≡ p r)
      (λ r apart it. still x r xs n (same_flips (column r 0) (column x 0) ∙ apart) ∙ it) rows (all_map (λ r. column r 0) (λ y. same_value (column x 0) y ≡ false) rows other) so_far

  chosen_go : (rows : List Row) → AllByRecursion IsNumbered rows → IsDistinct same_value (map (λ r. column r 0) rows) → AllByRecursion (λ r. list_any (λ c. is_row c r) (filter p rows) ≡ p r) rows
  unfolding IsDistinct
  chosen_go [] n d = tt
  chosen_go (x ∷ xs) n d = (first, others_too x xs n.0 xs d.0 (chosen_go xs n.1 d.1))
    where
      first : list_any (λ c. is_row c x) (filter p (x ∷ xs)) ≡ p x
      first = elim (cases_Bool (p x)) [
        | inl passed ↦ rw (passed, is_itself x n.0) refl
        | inr missed ↦ rw missed (none_of x xs n.1 d.0)
      ]

  any_ids : (xs : List Row) (r : Row) → is_one_of (map (λ c. id_in (rowid c)) xs) r ≡ list_any (λ c. is_row c r) xs
  any_ids [] r = refl
  any_ids (c ∷ xs) r = ap (λ rest. is_row c r || rest) (any_ids xs r)

  -- the rows whose rowids are those of the chosen rows, in any order, are the chosen rows
  pub removed : (rows : List Row) (ids : List ℤ) → HasApartRowids rows → IsPermutation (map (λ c. id_in (rowid c)) (filter p rows)) ids → without_all rows ids ≡ filter (λ r. not (p r)) rows
  removed rows ids apart same =
      without_are ids rows ∙ filter_all _ _ rows (all_from _ rows (λ r listed. one r (all_has _ rows r (chosen_go rows apart.integers apart.apart) listed)))
    where
      one : (r : Row) → list_any (λ c. is_row c r) (filter p rows) ≡ p r → not (is_one_of ids r) ≡ not (p r)
      one r it = ap not (list_any-IsPermutation (λ id. has_rowid id r) _ _ (IsPermutation-sym _ _ same) ∙ any_ids (filter p rows) r ∙ it)
