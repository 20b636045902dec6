-- Rows of the editions of some numbers, and of one more.
use Rattle.std.proofs.Common.{◌≡◌, ℕ, ℤ, pos, Bool, true, false, ◌&&◌, ◌||◌, List, [], ◌∷◌, ◌++◌, map, filter, inl, inr, refl, sym, ap, subst, ◌∙◌}
use Rattle.std.specs.List.{list_any}
use Rattle.std.specs.List.Sorted.{IsPermutation}
use Rattle.std.proofs.lemmas.List.{map-append}
use Rattle.std.proofs.lemmas.List.Sorted.{IsPermutation-refl, IsPermutation-map, IsPermutation-sym, IsPermutation-trans, IsPermutation-append}
use Rattle.std.proofs.lemmas.Bool.{cases_Bool, false≢true, false_from_ne_true, or_parts}
use Rattle.std.proofs.Math.Bool.{or-true, or-false}
use Rattle.std.proofs.lemmas.List.Folds.{list_any-append}
use Rattle.sqlite.specs.Order.{Row, column}
use Rattle.sqlite.specs.declared.types.Value.TheVariants.{Int}
use Rattle.store_tables.specs.Effects.{equals_number}
use Rattle.store_rows.specs.Order.{is_of}
use Rattle.store_rows.specs.Tables.{same_number}
use Rattle.store_rows.proofs.SelectionLemmas.{parts_together, filter_alike, of_more}
use Rattle.store_rows.proofs.TakenLemmas.{same_number_is, same_itself}
use Rattle.store_scans.specs.Census.{one_of}
use Rattle.store_scans.proofs.NumberLemmas.{int_once}
use Rattle.store_scans.proofs.CensusLemmas.{known_row}

pub both_no : (a b : Bool) → (a ≡ true → b ≡ true → ⊥) → (a && b) ≡ false
both_no true b h = false_from_ne_true b (h refl)
both_no false b h = refl

-- ---- numbers

pub turn : (a b : ℤ) → same_number a b ≡ true → same_number b a ≡ true
turn a b e = subst (λ z. same_number z a ≡ true) (same_number_is a b e) (same_itself a)

alike : (s t : Bool) → (s ≡ true → t ≡ true) → (t ≡ true → s ≡ true) → s ≡ t
alike true t f g = sym (f refl)
alike false true f g = g refl
alike false false f g = refl

turned_is : (a b : ℤ) → same_number a b ≡ same_number b a
turned_is a b = alike (same_number a b) (same_number b a) (turn a b) (turn b a)

pub numbers_is : (ns : List ℕ) (k : ℤ) → list_any (λ one. same_number (pos one) k) ns ≡ is_of (map pos ns) k
numbers_is [] k = refl
numbers_is (n ∷ ns) k = λ i. turned_is (pos n) k i || numbers_is ns k i

-- the row's number is one of these where it is found among them
pub numbered_row : (row : Row) (k : ℤ) (ns : List ℤ) → column row 1 ≡ Int k → is_of ns k ≡ true → one_of ns row ≡ true
numbered_row row k ns is h = known_row ns row k is ∙ h

-- ---- rows

hit : (row : Row) (n : ℤ) (ns : List ℤ) → equals_number 1 n row ≡ true → one_of ns row ≡ true → is_of ns n ≡ true
hit row n [] k h = h
hit row n (m ∷ ns) k h = elim (cases_Bool (equals_number 1 m row)) [
  | inl same ↦ ap (λ b. b || is_of ns n) (subst (λ z. same_number n z ≡ true) (int_once (column row 1) n m k same) (same_itself n))
  | inr other ↦ ap (λ b. same_number n m || b) (hit row n ns k (rw other at h)) ∙ or-true (same_number n m)
]

pub one_more : (ns : List ℤ) (n : ℤ) (row : Row) → one_of (ns ++ n ∷ []) row ≡ (one_of ns row || equals_number 1 n row)
one_more ns n row = list_any-append (λ m. equals_number 1 m row) ns (n ∷ []) ∙ ap (λ b. one_of ns row || b) (or-false (equals_number 1 n row))

pub one_apart : (ns : List ℤ) (n : ℤ) → is_of ns n ≡ false → (row : Row) → (one_of ns row && equals_number 1 n row) ≡ false
one_apart ns n new row = both_no (one_of ns row) (equals_number 1 n row) (λ h k. false≢true (sym new ∙ hit row n ns k h))

-- the rows that pass one test of two that none passes both of, as they are looked at
pub rows_join : (g : Row → Row) (p q r : Row → Bool) → ((row : Row) → r row ≡ (p row || q row)) → ((row : Row) → (p row && q row) ≡ false) → (xs fs bs : List Row) → IsPermutation fs (map g (filter p xs))
    → IsPermutation bs (map g (filter q xs)) → IsPermutation (fs ++ bs) (map g (filter r xs))
rows_join g p q r either apart xs fs bs one other =
    let split : IsPermutation (filter r xs) (filter p xs ++ filter q xs) =
    subst (λ l. IsPermutation l (filter p xs ++ filter q xs)) (sym (filter_alike r (λ row. p row || q row) either xs))
    (parts_together p q apart xs (filter p xs) (filter q xs) (IsPermutation-refl (filter p xs)) (IsPermutation-refl (filter q xs))) in
    let mapped : IsPermutation (map g (filter r xs)) (map g (filter p xs) ++ map g (filter q xs)) =
    subst (IsPermutation (map g (filter r xs))) (map-append g (filter p xs) (filter q xs)) (IsPermutation-map g (filter r xs) (filter p xs ++ filter q xs) split) in
    IsPermutation-trans (fs ++ bs) (map g (filter p xs) ++ map g (filter q xs)) (map g (filter r xs)) (IsPermutation-append fs (map g (filter p xs)) bs (map g (filter q xs)) one other)
    (IsPermutation-sym (map g (filter r xs)) (map g (filter p xs) ++ map g (filter q xs)) mapped)

-- a number that is none of these is none of the first ones, nor the last
pub parts_of : (ns : List ℤ) (n m : ℤ) → is_of (ns ++ n ∷ []) m ≡ false → (is_of ns m ≡ false) × (same_number m n ≡ false)
parts_of ns n m e = or_parts (is_of ns m) (same_number m n) (sym (of_more ns n m) ∙ e)
