-- What is read in the order of a key is in order.
use Rattle.std.proofs.Common.{◌≡◌, ℕ, suc, ◌<◌, false, Ordering, Less, Equal, Greater, List, [], ◌∷◌, length, map, refl, ap, sym, ◌∙◌, arith}
use Rattle.std.specs.Prelude.{ℤ, ◌≤ℤ◌, ◌<ℤ◌}
use Rattle.std.specs.Ordering.{is_lt, int_cmp, ordering_then, ordering_reverse, MatchOrdering}
use Rattle.std.specs.Cmp.{IsTotalOrder}
use Rattle.std.specs.List.{AllByRecursion, slice_index_or}
use Rattle.std.specs.List.Sorted.{IsSorted}
use Rattle.std.proofs.lemmas.Bool.{false≢true}
use Rattle.std.proofs.lemmas.Cmp.{on_total, then_total, int_ranked}
use Rattle.std.proofs.lemmas.Int.{ints}
use Rattle.std.proofs.lemmas.List.Sorted.{ranks_by, sorted_far}
use Rattle.std.specs.Cmp.{nat_cmp_total}
use Rattle.dict_text.proofs.AllLemmas.{all_map, all_unmapped}
use Rattle.sqlite.specs.Order.{Row, column, value_cmp}
use Rattle.sqlite.specs.declared.types.Value.TheVariants.{Int, Text}
use Rattle.sqlite_value.proofs.OrderLemmas.{value_cmp_total, value_cmp-Int, then-Equal}
use Rattle.store_sql.specs.Reads.{by_columns}
use Rattle.store_tables.specs.Order.{InOrder}

columns_total : (columns : List ℕ) → IsTotalOrder (by_columns columns)
columns_total [] = on_total (λ (r : Row). 0) nat_cmp_total
columns_total (c ∷ cs) = then_total (on_total (λ (r : Row). column r c) value_cmp_total) (columns_total cs)

all_from : {X : Type 0} (P : X → Type 0) (xs : List X) → ((k : ℕ) (d : X) → k < length xs → P (slice_index_or xs k d)) → AllByRecursion P xs
all_from P [] h = tt
all_from P (x ∷ xs) h = (h 0 x (omega arith), all_from P xs (λ k d lt. h (suc k) d (omega arith)))

order_from : {X : Type 0} (R : X → X → Type 0) (xs : List X) → ((i j : ℕ) (d : X) → i < j → j < length xs → R (slice_index_or xs i d) (slice_index_or xs j d)) → InOrder R xs
order_from R [] h = tt
order_from R (x ∷ xs) h = (all_from (R x) xs (λ k d lt. h 0 (suc k) d (omega arith) (omega arith)), order_from R xs (λ i j d lt le. h (suc i) (suc j) d (omega arith) (omega arith)))

pub sorted_order : (columns : List ℕ) (rows : List Row) → IsSorted (by_columns columns) rows → InOrder (λ a b. is_lt (by_columns columns b a) ≡ false) rows
sorted_order columns rows up =
    order_from (λ a b. is_lt (by_columns columns b a) ≡ false) rows
    (λ i j d lt le. sorted_far (λ x y. is_lt (by_columns columns x y)) (ranks_by (columns_total columns) (λ (r : Row). r)) rows up i j d (omega arith) le)

-- ---- numbers

le_from : (m n : ℤ) (r : Ordering) → MatchOrdering r (n <ℤ m) (n ≡ m) (m <ℤ n) → is_lt r ≡ false → m ≤ℤ n
le_from m n Less h e = absurd (false≢true (sym e))
le_from m n Equal h e = omega (arith, ints)
le_from m n Greater h e = omega (arith, ints)

pub int_le : (m n : ℤ) → is_lt (value_cmp (Int n) (Int m)) ≡ false → m ≤ℤ n
int_le m n h = le_from m n (int_cmp n m) (int_ranked n m (int_cmp n m) refl) (sym (ap is_lt (value_cmp-Int n m)) ∙ h)

pub one_le : (m n : ℤ) → is_lt (ordering_then (value_cmp (Int n) (Int m)) Equal) ≡ false → m ≤ℤ n
one_le m n h = int_le m n (sym (ap is_lt (then-Equal (value_cmp (Int n) (Int m)))) ∙ h)

itself : (x : Ordering) → x ≡ ordering_reverse x → x ≡ Equal
itself Less e = cc
itself Equal e = refl
itself Greater e = cc

-- behind a text that is the same
pub second_le : (s t : List ℕ) (m n : ℤ) → s ≡ t → is_lt (ordering_then (value_cmp (Text t) (Text s)) (ordering_then (value_cmp (Int n) (Int m)) Equal)) ≡ false → m ≤ℤ n
second_le s t m n same h =
    let tie : value_cmp (Text t) (Text s) ≡ Equal = ap (λ u. value_cmp (Text t) (Text u)) same ∙ itself (value_cmp (Text t) (Text t)) (value_cmp_total.antisymm (Text t) (Text t)) in
    one_le m n (sym (ap (λ o. is_lt (ordering_then o (ordering_then (value_cmp (Int n) (Int m)) Equal))) tie) ∙ h)

-- ---- the records of rows

pub records_order : {X Y Z : Type 0} (f : X → Y) (g : X → Z) (R : Y → Y → Type 0) (T : Z → Z → Type 0) → ((a b : X) → R (f a) (f b) → T (g a) (g b)) → (xs : List X) → InOrder R (map f xs) → InOrder T (map g xs)
records_order f g R T w [] h = tt
records_order f g R T w (x ∷ xs) h = (all_map (λ y. R (f x) (f y)) (T (g x)) g (w x) xs (all_unmapped (R (f x)) f xs h.0), records_order f g R T w xs h.1)
