-- The first element of a list that passes a test.
use Rattle.std.proofs.Common.{◌≡◌, ℕ, suc, ◌+◌, ◌<◌, ◌≤◌, List, ◌∷◌, Bool, true, false, arith, length, refl, sym}
use Rattle.std.specs.Prelude.{Some, None, nat_lt, if◌then◌else◌}
use Rattle.std.specs.List.{position, position_or_len}
use Rattle.std.proofs.lemmas.Bool.Decides.{nat_tests}

one_more : (n : ℕ) → 1 + n ≡ suc n
one_more n = omega arith

pub here : (p : ℕ → Bool) (b : ℕ) (bs : List ℕ) → p b ≡ true → position_or_len p (b ∷ bs) ≡ 0
here p b bs e = rw e refl

pub later : (p : ℕ → Bool) (b : ℕ) (bs : List ℕ) → p b ≡ false → position_or_len p (b ∷ bs) ≡ suc (position_or_len p bs)
later p b bs e = rw e (one_more _)

picks : (m n : ℕ) (test : Bool) → nat_lt m n ≡ test → (i : ℕ) → (if test then Some m else None) ≡ Some i → (i ≡ m) × (m < n)
picks m n true e i h = (let k : m ≡ i = cc in sym k, grind (arith, nat_tests, e))
picks m n false e i h = cc

picks_none : (m n : ℕ) (test : Bool) → nat_lt m n ≡ test → (if test then Some m else None) ≡ None → n ≤ m
picks_none m n true e h = cc
picks_none m n false e h = grind (arith, nat_tests, e)

-- the place of the first that passes, and that there is none
pub position_is : (p : ℕ → Bool) (xs : List ℕ) (i : ℕ) → position p xs ≡ Some i → (i ≡ position_or_len p xs) × (position_or_len p xs < length xs)
position_is p xs i e = picks _ _ _ refl i e

pub position_none : (p : ℕ → Bool) (xs : List ℕ) → position p xs ≡ None → length xs ≤ position_or_len p xs
position_none p xs e = picks_none _ _ _ refl e
