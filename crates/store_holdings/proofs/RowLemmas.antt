-- The rows of a table, and what they have in their columns.
use Rattle.std.proofs.Common.{◌≡◌, ℕ, zero, suc, Bool, true, false, cond, Ordering, Less, Equal, Greater, List, [], ◌∷◌, map, filter, drop, refl, ap, sym, subst, ◌∙◌, arith}
use Rattle.std.specs.Prelude.{ℤ, ◌<ℤ◌, IsPermutation}
use Rattle.std.specs.Ordering.{is_eq, int_cmp, MatchOrdering}
use Rattle.std.proofs.lemmas.Bool.{false≢true}
use Rattle.std.proofs.lemmas.Cmp.{int_ranked}
use Rattle.std.proofs.lemmas.Int.{ints}
use Rattle.sqlite_trees.proofs.ListLemmas.{IsPermutation-filter}
use Rattle.sqlite_value.proofs.OrderLemmas.{value_cmp-Int}
use Rattle.sqlite.specs.Order.{Row, column}
use Rattle.sqlite.specs.Effect.{Database}
use Rattle.sqlite.specs.declared.types.Value.TheVariants.{Int}
use Rattle.store_tables.specs.Effects.{rows_of, equals_number, same_value}
use Rattle.store_rows.specs.Tables.{same_number}
use Rattle.store_rows.proofs.TakenLemmas.{same_number_is, same_itself}

-- a column behind the rowid
pub column_behind : (r : Row) (k : ℕ) (s : Row) → drop 1 r ≡ s → column r (suc k) ≡ column s k
column_behind [] zero s e = ap (λ (t : Row). column t 0) e
column_behind [] (suc k) s e = ap (λ (t : Row). column t (suc k)) e
column_behind (x ∷ r) k s e = ap (λ (t : Row). column t k) e

-- what passes a test of an image is the image of what passes the test
pub filter_map : {X Y : Type 0} (f : X → Y) (p : X → Bool) (q : Y → Bool) → ((x : X) → q (f x) ≡ p x) → (xs : List X) → filter q (map f xs) ≡ map f (filter p xs)
filter_map f p q same [] = refl
filter_map {X} {Y} f p q same (x ∷ xs) = ap (λ b. cond b (f x ∷ filter q (map f xs)) (filter q (map f xs))) (same x) ∙ by (p x) (filter_map f p q same xs)
  where
    by : (b : Bool) → filter q (map f xs) ≡ map f (filter p xs) → cond b (f x ∷ filter q (map f xs)) (filter q (map f xs)) ≡ map f (cond b (x ∷ filter p xs) (filter p xs))
    by true rest = ap (λ l. f x ∷ l) rest
    by false rest = rest

-- ---- numbers in columns

same_by : (m n : ℤ) (r : Ordering) → MatchOrdering r (m <ℤ n) (m ≡ n) (n <ℤ m) → (b : Bool) → same_number m n ≡ b → is_eq r ≡ b
same_by m n Less h true e = let same : m ≡ n = same_number_is m n e in absurd (omega (arith, ints))
same_by m n Less h false e = refl
same_by m n Equal h true e = refl
same_by m n Equal h false e = absurd (false≢true (sym e ∙ ap (same_number m) (sym h) ∙ same_itself m))
same_by m n Greater h true e = let same : m ≡ n = same_number_is m n e in absurd (omega (arith, ints))
same_by m n Greater h false e = refl

pub same_int : (m n : ℤ) → same_value (Int m) (Int n) ≡ same_number m n
same_int m n = ap is_eq (value_cmp-Int m n) ∙ same_by m n (int_cmp m n) (int_ranked m n (int_cmp m n) refl) (same_number m n) refl

-- of records that are the rows of a table, those that pass a test are its rows that pass the same one behind their rowids
pub rows_tested : {R : Type 0} (encode : R → Row) (p : R → Bool) (behind whole : Row → Bool) → ((r : R) → behind (encode r) ≡ p r) → ((row : Row) → behind (drop 1 row) ≡ whole row) → (rs : List R) (rows : List Row)
    → IsPermutation (map encode rs) (map (drop 1) rows) → IsPermutation (map encode (filter p rs)) (map (drop 1) (filter whole rows))
rows_tested encode p behind whole left right rs rows same =
    subst (λ (l : List Row). IsPermutation l (map (drop 1) (filter whole rows))) (filter_map encode p behind left rs)
    (subst (λ (l : List Row). IsPermutation (filter behind (map encode rs)) l) (filter_map (drop 1) whole behind right rows) (IsPermutation-filter behind (map encode rs) (map (drop 1) rows) same))

-- and of a table whose first column is their number, those of a number are its rows of that number
pub rows_numbered : {R : Type 0} (encode : R → Row) (key : R → ℤ) → ((r : R) → column (encode r) 0 ≡ Int (key r)) → (name : List ℕ) (db : Database) (rs : List R) → IsPermutation (map encode rs) (map (drop 1) (rows_of name db)) → (n : ℤ)
    → IsPermutation (map encode (filter (λ r. same_number (key r) n) rs)) (map (drop 1) (filter (equals_number 1 n) (rows_of name db)))
rows_numbered encode key first name db rs same n =
    rows_tested encode (λ r. same_number (key r) n) (λ row. same_value (column row 0) (Int n)) (equals_number 1 n)
    (λ r. ap (λ v. same_value v (Int n)) (first r) ∙ same_int (key r) n) (λ row. ap (λ v. same_value v (Int n)) (sym (column_behind row 0 (drop 1 row) refl))) rs (rows_of name db) same
