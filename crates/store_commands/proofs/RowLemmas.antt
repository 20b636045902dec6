-- Rows that a statement takes out of a table, and the records that stay.
use Rattle.std.proofs.Common.{◌≡◌, ℕ, suc, ℤ, List, [], ◌∷◌, map, drop, filter, not, Bool, true, inl, inr, Ordering, Less, Equal, Greater, refl, sym, ap, subst, ◌∙◌}
use Rattle.std.specs.Ordering.{is_eq, int_cmp}
use Rattle.std.proofs.lemmas.Bool.{cases_Bool, false≢true}
use Rattle.std.proofs.lemmas.Cmp.{int_cmp_total}
use Rattle.std.proofs.lemmas.Map.Lookups.{exact_signed}
use Rattle.std.specs.List.Sorted.{IsPermutation}
use Rattle.std.proofs.lemmas.List.Sorted.{IsPermutation-refl}
use Rattle.sqlite_trees.proofs.ListLemmas.{IsPermutation-filter}
use Rattle.sqlite.specs.Effect.{Database}
use Rattle.sqlite.specs.Order.{Row}
use Rattle.sqlite_value.proofs.OrderLemmas.{value_cmp-Int}
use Rattle.sqlite.specs.declared.types.Value.TheVariants.{Int}
use Rattle.store_tables.specs.Effects.{HasApartRowids, same_value, IsRemoved, equals_number, rows_of}
use Rattle.store_tables.proofs.Callers.{apart_removed, apart_none}
use Rattle.store_rows.specs.Tables.{same_number}
use Rattle.store_rows.proofs.TakenLemmas.{same_number_is, same_itself}
use Rattle.store_sql.specs.Readings.{Keeps}

pub filter_map : {A B : Type 0} (f : A → B) (p : B → Bool) (q : A → Bool) → ((a : A) → q a ≡ p (f a)) → (xs : List A) → map f (filter q xs) ≡ filter p (map f xs)
filter_map f p q same [] = refl
filter_map f p q same (x ∷ xs) = elim (cases_Bool (q x)) [
  | inl passes ↦ rw (passes, sym (same x) ∙ passes) (ap (λ l. f x ∷ l) (filter_map f p q same xs))
  | inr fails ↦ rw (fails, sym (same x) ∙ fails) (filter_map f p q same xs)
]

-- the column after the rowid is the first of the record's row
pub next_column : (at : ℕ) (n : ℤ) (row : Row) → equals_number (suc at) n row ≡ equals_number at n (drop 1 row)
next_column at n [] = refl
next_column at n (v ∷ row) = refl

-- the rows of the records that stay
pub keeps_removed : {R : Type 0} (name : List ℕ) (encode : R → Row) (old new : Database) (records : List R) (test gone : Row → Bool) → ((row : Row) → test row ≡ gone (drop 1 row)) → IsRemoved name test old new
    → Keeps name encode old records
    → Keeps name encode new (filter (λ r. not (gone (encode r))) records)
keeps_removed name encode old new records test gone same out k = record {
  rows = subst (λ l. IsPermutation (map encode (filter (λ r. not (gone (encode r))) records)) (map (drop 1) l)) (sym out.rows)
      (subst (λ l. IsPermutation (map encode (filter (λ r. not (gone (encode r))) records)) l) (sym (filter_map (drop 1) (λ row. not (gone row)) (λ row. not (test row)) (λ row. ap not (same row)) (rows_of name old)))
      (subst (λ l. IsPermutation l (filter (λ row. not (gone row)) (map (drop 1) (rows_of name old)))) (sym (filter_map encode (λ row. not (gone row)) (λ r. not (gone (encode r))) (λ r. refl) records))
      (IsPermutation-filter (λ row. not (gone row)) (map encode records) (map (drop 1) (rows_of name old)) k.rows)));
  apart = apart_removed name test old new out k.apart;
}

none_left : (rows : List Row) → filter (λ (r : Row). not true) rows ≡ []
none_left [] = refl
none_left (r ∷ rows) = none_left rows

pub keeps_cleared : {R : Type 0} (name : List ℕ) (encode : R → Row) (old new : Database) → IsRemoved name (λ _. true) old new → Keeps name encode new []
keeps_cleared name encode old new gone =
    let empty : rows_of name new ≡ [] = gone.rows ∙ none_left (rows_of name old) in
    record {
      rows = subst (λ l. IsPermutation [] (map (drop 1) l)) (sym empty) (IsPermutation-refl []);
      apart = subst HasApartRowids (sym empty) apart_none;
    }

-- ---- numbers are compared as they are in records

equal_by : (o : Ordering) → is_eq o ≡ true → o ≡ Equal
equal_by Less h = absurd (let e = h in cc)
equal_by Equal h = refl
equal_by Greater h = absurd (let e = h in cc)

itself : (o : Ordering) → o ≡ Rattle.std.specs.Ordering.ordering_reverse o → o ≡ Equal
itself Less e = cc
itself Equal e = refl
itself Greater e = cc

tied : (a : ℤ) → is_eq (int_cmp a a) ≡ true
tied a = ap is_eq (itself (int_cmp a a) (int_cmp_total.antisymm a a))

compared : (a b : ℤ) → is_eq (int_cmp a b) ≡ same_number b a
compared a b = elim (cases_Bool (same_number b a)) [
  | inl same ↦ let e : b ≡ a = same_number_is b a same in subst (λ (z : ℤ). is_eq (int_cmp a z) ≡ same_number b a) (sym e) (tied a ∙ sym same)
  | inr apart ↦ elim (cases_Bool (is_eq (int_cmp a b))) [
    | inl equal ↦ absurd (let e : a ≡ b = exact_signed a b (equal_by (int_cmp a b) equal) in false≢true (sym apart ∙ ap (same_number b) e ∙ same_itself b))
    | inr differs ↦ differs ∙ sym apart
  ]
]

pub compared_values : (n a : ℤ) → same_value (Int a) (Int n) ≡ same_number n a
compared_values n a = ap is_eq (value_cmp-Int a n) ∙ compared a n
