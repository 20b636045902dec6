-- The pieces of keys, each with the places of the keys that have it.
use Rattle.std.specs.Prelude.{◌≡◌, ◌↔◌, ℕ, ◌+◌, ◌-◌, ◌<◌, Bool, ◌&&◌, nat_lt, List, [], ◌∷◌, ◌++◌, length, map, slice_index_or}
use Rattle.std.specs.declared.cmp.Ordering.{Ordering}
use Rattle.std.specs.Ordering.{nat_cmp, ordering_then}
use Rattle.std.specs.List.{Contains}
use Rattle.std.specs.List.Sorted.{IsStrictlySortedBy}
use Rattle.std.specs.Str.{bytes_eq}
use Rattle.store_derived.specs.Derived.{octets_cmp}
use Rattle.store_places.specs.Places.{places_where}
use Rattle.store_pieces.specs.Selected.{has_piece}

abbrev pub Placed : Type 0
Placed = List ℕ × ℕ

abbrev pub placed_at : ℕ → List ℕ → Placed
placed_at place piece = (piece, place)

-- each piece of each key, as often as it stands there, with the place of its key
abbrev pub occurrences_from : (List ℕ → List (List ℕ)) → ℕ → List (List ℕ) → List Placed
occurrences_from pieces_in place [] = []
occurrences_from pieces_in place (key ∷ keys) = map (placed_at place) (pieces_in key) ++ occurrences_from pieces_in (place + 1) keys

abbrev pub with_piece : List ℕ → ℕ → Placed
with_piece piece place = (piece, place)

-- by the pieces, and by the places where pieces are the same
abbrev pub pair_cmp : Placed → Placed → Ordering
pair_cmp p q = ordering_then (octets_cmp p.0 q.0) (nat_cmp p.1 q.1)

-- all pieces of the keys with the places of their keys, each once, in this order
pub record AreOccurrences (pieces_in : List ℕ → List (List ℕ)) (keys : List (List ℕ)) (pairs : List Placed) : Type 0 where
  pub rising : IsStrictlySortedBy pair_cmp pairs
  pub each : (pair : Placed) → Contains pairs pair ↔ Contains (occurrences_from pieces_in 0 keys) pair

-- pieces, each with a list of places, as one list of pairs
abbrev pub pairs_of : List (List ℕ) → List (List ℕ) → List Placed
pairs_of [] lists = []
pairs_of (piece ∷ pieces) [] = []
pairs_of (piece ∷ pieces) (list ∷ lists) = map (with_piece piece) list ++ pairs_of pieces lists

-- the last of the pieces is this one
abbrev pub ends_with_piece : List (List ℕ) → List ℕ → Bool
ends_with_piece pieces piece = nat_lt 0 (length pieces) && bytes_eq (slice_index_or pieces (length pieces - 1) []) piece

-- The pieces rise; each has the places of the keys that have it, and no other piece is in a key.
pub record ArePlaced (pieces_in : List ℕ → List (List ℕ)) (keys pieces lists : List (List ℕ)) : Type 0 where
  pub rising : IsStrictlySortedBy octets_cmp pieces
  pub each : (at : ℕ) → at < length pieces → slice_index_or lists at [] ≡ places_where (has_piece pieces_in (slice_index_or pieces at [])) keys
  pub others : (piece : List ℕ) → (Contains pieces piece → ⊥) → places_where (has_piece pieces_in piece) keys ≡ []
