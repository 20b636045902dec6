-- Keys by their places: which places a query is answered with.
use Rattle.std.specs.Prelude.{ℕ, Bool, List, [], length, filter, slice_index_or}
use Rattle.std.specs.List.{range_with_len}

-- the key at a place, and nothing where there is none
abbrev pub key_at : List (List ℕ) → ℕ → List ℕ
key_at keys place = slice_index_or keys place []

-- the places of those keys that pass, rising: of 0, 1, 2 and so on, as many as there are keys, those whose key passes
abbrev pub places_where : (List ℕ → Bool) → List (List ℕ) → List ℕ
places_where test keys = filter (λ place. test (key_at keys place)) (range_with_len 0 (length keys))
