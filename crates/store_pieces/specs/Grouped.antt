-- Pairs that are grouped in part.
use Rattle.std.specs.Prelude.{◌≡◌, ℕ, ◌-◌, ◌<◌, List, [], length, take, slice_index_or}
use Rattle.std.specs.List.Sorted.{IsStrictlySortedBy}
use Rattle.store_derived.specs.Derived.{octets_cmp}
use Rattle.store_pieces.specs.Pieces.{Placed, pairs_of, pair_cmp}

-- the first pairs, grouped: the pieces rise, and the last of them is that of the last pair
pub record AreGrouped (pairs : List Placed) (i : ℕ) (pieces lists : List (List ℕ)) : Type 0 where
  pub same : length pieces ≡ length lists
  pub are : pairs_of pieces lists ≡ take i pairs
  pub rising : IsStrictlySortedBy octets_cmp pieces
  pub none : i ≡ 0 → length pieces ≡ 0
  pub last : (d : Placed) → 0 < i → (0 < length pieces) × (slice_index_or pieces (length pieces - 1) [] ≡ (slice_index_or pairs (i - 1) d).0)

-- pairs that rise are grouped so far; of others only the sizes are known
pub record GoesOnGrouping (pairs : List Placed) (i : ℕ) (pieces lists : List (List ℕ)) : Type 0 where
  pub same : length pieces ≡ length lists
  pub grouped : IsStrictlySortedBy pair_cmp pairs → AreGrouped pairs i pieces lists
