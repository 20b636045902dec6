-- What `column >= ?n` holds of, and several conditions together.
use Rattle.std.proofs.Common.{◌≡◌, ◌&&◌, ℤ, Bool, true, false, not, Some, refl, Ordering, Less, Equal, Greater}
use Rattle.std.specs.Ordering.{is_lt}
use Rattle.sqlite.specs.declared.types.Value.{Value}
use Rattle.sqlite.specs.declared.types.Value.TheVariants.{Null, Int, Real, Text, Blob}
use Rattle.sqlite.specs.Order.{value_cmp}
use Rattle.sqlite.specs.Ops.{binary as operate}
use Rattle.sqlite.specs.Collation.TheVariants.{Binary}
use Rattle.sqlite_sql.specs.Ops.{is_true, test, from_truth}
use Rattle.sqlite_sql.specs.declared.ops.BinaryOp.TheVariants as by
use Rattle.sqlite_sql.specs.declared.ops.CompareOp.TheVariants as compare
use Rattle.store_tables.proofs.CompareLemmas.{and_true}

by_ge : (o : Ordering) → is_true (from_truth (Some (test compare.Ge o))) ≡ not (is_lt o)
by_ge Less = refl
by_ge Equal = refl
by_ge Greater = refl

pub from_number : (v : Value) (n : ℤ) → is_true (operate (by.Compare compare.Ge Binary) v (Int n)) ≡ not (is_lt (value_cmp v (Int n)))
unfolding operate value_cmp
from_number Null n = refl
from_number (Int m) n = by_ge (value_cmp (Int m) (Int n))
from_number (Real x) n = by_ge (value_cmp (Real x) (Int n))
from_number (Text t) n = by_ge (value_cmp (Text t) (Int n))
from_number (Blob a) n = by_ge (value_cmp (Blob a) (Int n))

two : (a b : Bool) → (a && (b && true)) ≡ (a && b)
two true b = and_true b
two false b = refl

three : (a b c : Bool) → (a && (b && (c && true))) ≡ ((a && b) && c)
three true true c = and_true c
three true false c = refl
three false b c = refl

pub two_same : (a b p q : Bool) → a ≡ p → b ≡ q → (a && (b && true)) ≡ (p && q)
two_same a b p q first second = rw (first, second) (two p q)

pub three_same : (a b c p q r : Bool) → a ≡ p → b ≡ q → c ≡ r → (a && (b && (c && true))) ≡ ((p && q) && r)
three_same a b c p q r first second third = rw (first, second, third) (three p q r)
