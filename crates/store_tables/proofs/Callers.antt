-- What a caller's proof needs of the statements: the tables stay where they are, and rowids stay apart.
use Rattle.std.proofs.Common.{◌≡◌, ◌≢◌, ℕ, ℤ, Ordering, Less, Equal, Greater, List, [], ◌∷◌, map, filter, Bool, true, false, not, inl, inr, refl, sym, ap, subst, ◌∙◌}
use Rattle.std.proofs.lemmas.Bool.{cases_Bool}
use Rattle.std.proofs.lemmas.List.Elements.{All-from_recursion, recursion_from_All}
use Rattle.std.proofs.lemmas.List.Sorted.{IsPermutation-map, All-permutation}
use Rattle.std.proofs.lemmas.Map.Keys.{IsDistinct-IsPermutation}
use Rattle.std.proofs.lemmas.Map.Lookups.{exact_signed}
use Rattle.std.specs.List.{AllByRecursion, IsDistinct}
use Rattle.std.specs.List.Sorted.{IsPermutation}
use Rattle.std.specs.Ordering.{is_eq, int_cmp}
use Rattle.store_tables.proofs.KitLemmas.{all_from, all_has, has_filtered, value_cmp-Int}
use Rattle.sqlite.specs.Effect.{Database}
use Rattle.sqlite.specs.Table.{Table}
use Rattle.sqlite.specs.Order.{Row, column}
use Rattle.sqlite.specs.declared.types.Value.{Value}
use Rattle.sqlite.specs.declared.types.Value.TheVariants.{Int}
use Rattle.store_tables.specs.Found.{HasTable, HasOwn}
use Rattle.store_tables.specs.Effects.{Has, HasApartRowids, IsAdded, IsRemoved, rows_of, same_value}
use Rattle.store_tables.proofs.RemoveLemmas.{same_flips}

-- the table stays where it is
pub still_has : (table : ℕ → Table) (old new : Database) → new.schema ≡ old.schema → Has table old → Has table new
still_has table old new same has = (has.0, has.1, subst (λ s. HasTable s has.0 (table has.1)) (sym same) has.2)

-- a table that a test found is one that the statements can use
pub own_has : (table : ℕ → Table) (db : Database) → HasOwn db.schema table → Has table db
own_has table db own = (own.at, own.tree, own.has)

pub apart_none : HasApartRowids []
unfolding IsDistinct
apart_none = record { integers = tt; apart = tt }

-- ---- rows that are taken out leave the others apart

all_filter : {X : Type 0} (P : X → Type 0) (p : X → Bool) (xs : List X) → AllByRecursion P xs → AllByRecursion P (filter p xs)
all_filter P p xs h = all_from P (filter p xs) (λ x left. all_has P xs x h (has_filtered p xs x left).0)

all_firsts : (P : Value → Type 0) (p : Row → Bool) (rows : List Row) → AllByRecursion P (map (λ r. column r 0) rows) → AllByRecursion P (map (λ r. column r 0) (filter p rows))
all_firsts P p [] h = tt
all_firsts P p (r ∷ rows) h = elim (cases_Bool (p r)) [
  | inl kept ↦ rw kept (h.0, all_firsts P p rows h.1)
  | inr gone ↦ rw gone (all_firsts P p rows h.1)
]

distinct_filter : (p : Row → Bool) (rows : List Row) → IsDistinct same_value (map (λ r. column r 0) rows) → IsDistinct same_value (map (λ r. column r 0) (filter p rows))
unfolding IsDistinct
distinct_filter p [] h = tt
distinct_filter p (r ∷ rows) h = elim (cases_Bool (p r)) [
  | inl kept ↦ rw kept (all_firsts (λ y. same_value (column r 0) y ≡ false) p rows h.0, distinct_filter p rows h.1)
  | inr gone ↦ rw gone (distinct_filter p rows h.1)
]

pub apart_removed : (name : List ℕ) (test : Row → Bool) (old new : Database) → IsRemoved name test old new → HasApartRowids (rows_of name old) → HasApartRowids (rows_of name new)
apart_removed name test old new gone apart = subst HasApartRowids (sym gone.rows) (record {
  integers = all_filter (λ r. (n : ℤ) × (column r 0 ≡ Int n)) (λ r. not (test r)) (rows_of name old) apart.integers;
  apart = distinct_filter (λ r. not (test r)) (rows_of name old) apart.apart;
})

-- ---- a row that is put in under a free rowid is apart from the others

pub differs : (id : ℤ) (v : Value) → (n : ℤ) × (v ≡ Int n) → v ≢ Int id → same_value (Int id) v ≡ false
differs id v n other = elim (cases_Bool (same_value (Int id) v)) [
  | inl tie ↦ absurd (let m = n.1 in let both : is_eq (int_cmp id n.0) ≡ true = sym (ap is_eq (value_cmp-Int id n.0)) ∙ subst (λ w. same_value (Int id) w ≡ true) m tie in
      other (m ∙ ap Int (sym (exact_signed id n.0 (equal (int_cmp id n.0) both)))))
  | inr apart ↦ apart
]
  where
    equal : (o : Ordering) → is_eq o ≡ true → o ≡ Equal
    equal Less h = absurd (let e = h in cc)
    equal Equal h = refl
    equal Greater h = absurd (let e = h in cc)

firsts_differ : (id : ℤ) (rows : List Row) → AllByRecursion (λ r. (n : ℤ) × (column r 0 ≡ Int n)) rows → AllByRecursion (λ r. column r 0 ≢ Int id) rows → AllByRecursion (λ y. same_value (Int id) y ≡ false) (map (λ r. column r 0) rows)
firsts_differ id [] n other = tt
firsts_differ id (r ∷ rows) n other = (differs id (column r 0) n.0 other.0, firsts_differ id rows n.1 other.1)

pub apart_added : (name : List ℕ) (row : Row) (old new : Database) → IsAdded name row old new → HasApartRowids (rows_of name old) → HasApartRowids (rows_of name new)
unfolding IsDistinct
apart_added name row old new one apart =
    let first : Row = Int one.id ∷ row in
    let d : IsDistinct same_value (map (λ r. column r 0) (first ∷ rows_of name old)) = (firsts_differ one.id (rows_of name old) apart.integers one.free, apart.apart) in
    record {
      integers = recursion_from_All _ _ (All-permutation (λ r. (n : ℤ) × (column r 0 ≡ Int n)) (first ∷ rows_of name old) _ one.rows (All-from_recursion _ (first ∷ rows_of name old) ((one.id, refl), apart.integers)));
      apart = IsDistinct-IsPermutation same_value same_flips _ _ (IsPermutation-map (λ r. column r 0) _ _ one.rows) d;
    }

-- ---- rows are apart in whatever order they are listed

pub apart_same : (xs ys : List Row) → IsPermutation xs ys → HasApartRowids xs → HasApartRowids ys
apart_same xs ys same apart = record {
  integers = recursion_from_All _ _ (All-permutation (λ r. (n : ℤ) × (column r 0 ≡ Int n)) xs ys same (All-from_recursion _ xs apart.integers));
  apart = IsDistinct-IsPermutation same_value same_flips _ _ (IsPermutation-map (λ r. column r 0) xs ys same) apart.apart;
}
