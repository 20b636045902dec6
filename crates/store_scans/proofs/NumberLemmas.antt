-- Numbers of editions in rows.
use Rattle.std.proofs.Common.{◌≡◌, ℕ, suc, ℤ, Bool, true, false, [], ◌∷◌, drop, refl, sym, ap, subst, ◌∙◌}
use Rattle.std.specs.Ordering.{is_eq, int_cmp}
use Rattle.std.specs.declared.cmp.Ordering.{Ordering}
use Rattle.std.specs.declared.cmp.Ordering.TheVariants.{Less, Equal, Greater}
use Rattle.std.proofs.lemmas.Map.Lookups.{exact_signed}
use Rattle.sqlite.specs.Order.{Row, column, value_cmp}
use Rattle.sqlite.specs.declared.types.Value.{Value}
use Rattle.sqlite.specs.declared.types.Value.TheVariants.{Int}
use Rattle.store_tables.specs.Effects.{same_value, equals_number}
use Rattle.store_tables.proofs.KitLemmas.{value_cmp-Int, value_cmp_total}
use Rattle.store_rows.specs.Tables.{same_number}
use Rattle.store_rows.proofs.TakenLemmas.{same_number_is, same_itself}
use Rattle.store_scans.proofs.RowidLemmas.{value_itself}

-- ---- numbers in rows

equal : (o : Ordering) → is_eq o ≡ true → o ≡ Equal
equal Less h = absurd (let e = h in cc)
equal Equal h = refl
equal Greater h = absurd (let e = h in cc)

pub int_is : (a n : ℤ) → same_value (Int a) (Int n) ≡ true → a ≡ n
int_is a n h = exact_signed a n (equal (int_cmp a n) (sym (ap is_eq (value_cmp-Int a n)) ∙ h))

alike : (s t : Bool) → (s ≡ true → t ≡ true) → (t ≡ true → s ≡ true) → s ≡ t
alike true t f g = sym (f refl)
alike false true f g = g refl
alike false false f g = refl

pub same_int : (a n : ℤ) → same_value (Int a) (Int n) ≡ same_number a n
same_int a n = alike (same_value (Int a) (Int n)) (same_number a n)
    (λ h. subst (λ m. same_number a m ≡ true) (int_is a n h) (same_itself a))
    (λ h. subst (λ m. same_value (Int a) (Int m) ≡ true) (same_number_is a n h) (value_itself (Int a)))

-- a value isn't the same as two numbers
pub int_once : (v : Value) (m n : ℤ) → same_value v (Int m) ≡ true → same_value v (Int n) ≡ true → m ≡ n
int_once v m n h k = int_is m n (sym (ap is_eq (value_cmp_total.congr v (Int m) (Int n) (equal (value_cmp v (Int m)) h))) ∙ k)

pub behind_column : (row : Row) (k : ℕ) → column row (suc k) ≡ column (drop 1 row) k
behind_column [] k = refl
behind_column (x ∷ row) k = refl

pub first_number : (row s : Row) (a n : ℤ) → drop 1 row ≡ s → column s 0 ≡ Int a → equals_number 1 n row ≡ same_number a n
first_number row s a n e f = ap (λ v. same_value v (Int n)) (behind_column row 0 ∙ ap (λ t. column t 0) e ∙ f) ∙ same_int a n
