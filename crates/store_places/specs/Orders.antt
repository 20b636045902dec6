-- The order in which an index holds the places of keys, and keys between two others.
use Rattle.std.specs.Prelude.{ℕ, Bool, ◌&&◌, List, length}
use Rattle.std.specs.declared.cmp.Ordering.{Ordering}
use Rattle.std.specs.Ordering.{is_le, nat_cmp, ordering_then}
use Rattle.std.specs.List.{range_with_len}
use Rattle.std.specs.List.Sorted.{IsPermutation, IsSorted}
use Rattle.store_derived.specs.Derived.{octets_cmp}
use Rattle.store_places.specs.Places.{key_at}

-- by the keys, and by the places where keys are the same
abbrev pub place_cmp : List (List ℕ) → ℕ → ℕ → Ordering
place_cmp keys a b = ordering_then (octets_cmp (key_at keys a) (key_at keys b)) (nat_cmp a b)

-- all places, in this order
pub record IsOrderOf (keys : List (List ℕ)) (places : List ℕ) : Type 0 where
  pub each : IsPermutation (range_with_len 0 (length keys)) places
  pub rising : IsSorted (place_cmp keys) places

-- both ends taken in
abbrev pub is_between : List ℕ → List ℕ → List ℕ → Bool
is_between low high key = is_le (octets_cmp low key) && is_le (octets_cmp key high)
