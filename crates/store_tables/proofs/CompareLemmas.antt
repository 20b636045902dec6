-- What `column = ?1` holds of.
use Rattle.std.proofs.Common.{◌≡◌, ℕ, Bool, true, false, ◌&&◌, Ordering, Less, Equal, Greater, Some, refl, List, ℤ}
use Rattle.std.specs.Ordering.{is_eq}
use Rattle.sqlite.specs.declared.types.Value.{Value}
use Rattle.sqlite.specs.declared.types.Value.TheVariants.{Null, Int, Real, Text, Blob}
use Rattle.sqlite.specs.Order.{value_cmp}
use Rattle.sqlite.specs.Ops.{binary}
use Rattle.sqlite_sql.specs.Ops.{is_true, test, from_truth}
use Rattle.sqlite_sql.specs.declared.ops.BinaryOp.TheVariants as by
use Rattle.sqlite_sql.specs.declared.ops.CompareOp.TheVariants as compare
use Rattle.sqlite.specs.Collation.TheVariants.{Binary}
use Rattle.store_tables.specs.Effects.{same_value}

by_ordering : (o : Ordering) → is_true (from_truth (Some (test compare.Eq o))) ≡ is_eq o
by_ordering Less = refl
by_ordering Equal = refl
by_ordering Greater = refl

pub equals_is : (v : Value) (n : ℤ) → is_true (binary (by.Compare compare.Eq Binary) v (Int n)) ≡ same_value v (Int n)
unfolding binary value_cmp
equals_is Null n = refl
equals_is (Int m) n = by_ordering (value_cmp (Int m) (Int n))
equals_is (Real x) n = by_ordering (value_cmp (Real x) (Int n))
equals_is (Text t) n = by_ordering (value_cmp (Text t) (Int n))
equals_is (Blob b) n = by_ordering (value_cmp (Blob b) (Int n))

pub equals_text_is : (v : Value) (s : List ℕ) → is_true (binary (by.Compare compare.Eq Binary) v (Text s)) ≡ same_value v (Text s)
unfolding binary value_cmp
equals_text_is Null s = refl
equals_text_is (Int m) s = by_ordering (value_cmp (Int m) (Text s))
equals_text_is (Real x) s = by_ordering (value_cmp (Real x) (Text s))
equals_text_is (Text t) s = by_ordering (value_cmp (Text t) (Text s))
equals_text_is (Blob b) s = by_ordering (value_cmp (Blob b) (Text s))

pub and_true : (a : Bool) → (a && true) ≡ a
and_true true = refl
and_true false = refl
