-- The ids of open connections.
use Rattle.std.proofs.Common.{ℕ, ◌+◌, ◌<◌, List, All, length, arith, inl, inr}
use Rattle.std.proofs.lemmas.Bool.Decides.{leb_tells}
use Rattle.std.proofs.lemmas.List.Edits.{get_or-remove_below, get_or-remove_above, length-remove}
use Rattle.std.specs.List.{AllPairs, remove}
use Rattle.std.proofs.lemmas.List.Quantifiers.{all_pairs_remove}

pub rising_remove : (xs : List ℕ) (i : ℕ) → i < length xs → AllPairs (λ a b. a < b) xs → AllPairs (λ a b. a < b) (remove xs i)
rising_remove xs i in_xs rising = all_pairs_remove (λ a b. a < b) xs i in_xs rising

pub all_remove : (P : ℕ → Type 0) (xs : List ℕ) (i : ℕ) → i < length xs → All P xs → All P (remove xs i)
all_remove P xs i in_xs given k d in_rest =
    let shorter = length-remove xs i in_xs in
    elim (leb_tells i k) [
      | inl above ↦ rw (get_or-remove_above xs i d k above.1 in_xs) (given (k + 1) d (omega (arith, shorter)))
      | inr below ↦ rw (get_or-remove_below xs i d k below.1 in_xs) (given k d (omega (arith, shorter)))
    ]
