-- A row from its columns.
use Rattle.std.proofs.Common.{◌≡◌, inl, inr, ℕ, suc, ◌+◌, [], ◌∷◌, map, drop, length, refl, sym, ap, subst, ◌∙◌, arith, add-zero, Option, Some, None, MatchOption, ◌≢◌, String, string_bytes, ℤ}
use Rattle.std.proofs.lemmas.Str.{IsUtf8-string_bytes}
use Rattle.sqlite.specs.declared.types.Value.{Value}
use Rattle.sqlite.specs.declared.types.Value.TheVariants.{Null, Int, Text}
use Rattle.sqlite.specs.Values.{or_null}
use Rattle.std.specs.List.{range_with_len}
use Rattle.sqlite.specs.Order.{Row, column}
use Rattle.store_sql.specs.Columns.{IsOf}
use Rattle.store_sql.specs.Columns.Content.{NumberOrNull, NameOrNull}

cells_from : (r : Row) (a : ℕ) (s : Row) → ((k : ℕ) → column s (a + k) ≡ column r k) → map (column s) (range_with_len a (length r)) ≡ r
cells_from [] a s h = refl
cells_from (x ∷ r) a s h =
    let head : column s a ≡ x = ap (column s) (sym (add-zero a)) ∙ h 0 in
    let next : (k : ℕ) → column s ((a + 1) + k) ≡ column r k = λ k. let same : (a + 1) + k ≡ a + suc k = omega arith in ap (column s) same ∙ h (suc k) in
    rw head (ap (λ rest. x ∷ rest) (cells_from r (a + 1) s next))

-- a row of this width is its columns in their order
pub cells : (r : Row) (n : ℕ) → length r ≡ n → r ≡ map (column r) (range_with_len 0 n)
cells r n wide = sym (subst (λ w. map (column r) (range_with_len 0 w) ≡ r) wide (cells_from r 0 r (λ k. let same : 0 + k ≡ k = omega arith in ap (column r) same)))

-- what is read of a column that may be NULL
pub read_or_null : {X : Type 0} (f : X → Value) (v : Value) (o : Option X) → MatchOption o (v ≡ Null) (λ x. (v ≢ Null) × (v ≡ f x)) → v ≡ or_null f o
read_or_null f v None h = h
read_or_null f v (Some x) h = h.1

pub number_or_null : (v : Value) (o : Option ℤ) → MatchOption o (v ≡ Null) (λ n. (v ≢ Null) × (v ≡ Int n)) → IsOf NumberOrNull v
number_or_null v None h = inl h
number_or_null v (Some n) h = inr (n, h.1)

pub text_or_null : {Z : Type 0} (v : Value) (o : Option (String Z)) → MatchOption o (v ≡ Null) (λ s. (v ≢ Null) × (v ≡ Text (string_bytes s))) → IsOf NameOrNull v
text_or_null v None h = inl h
text_or_null v (Some s) h = inr (string_bytes s, h.1, IsUtf8-string_bytes s)

-- the first column, and what stands behind it
pub first_and_rest : (r : Row) (n : ℕ) → length r ≡ suc n → r ≡ column r 0 ∷ drop 1 r
first_and_rest [] n wide = absurd (omega (arith, wide))
first_and_rest (x ∷ r) n wide = refl
