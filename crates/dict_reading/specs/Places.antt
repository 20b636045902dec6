-- Where an index says what its lines say.
use Rattle.std.specs.Prelude.{◌+◌, ◌≤◌, ℕ, List, take, drop}
use Rattle.dict_index.specs.Line.{Line}
use Rattle.dict_reading.specs.declared.places.EntryPlace.{EntryPlace}

-- so many octets from a place on
abbrev pub octets_at : List ℕ → ℕ → ℕ → List ℕ
octets_at index start size = take size (drop start index)

-- what the index says there
abbrev pub line_in : List ℕ → EntryPlace → Line
line_in index place = record { headword = octets_at index place.headword_start place.headword_size; offset = place.offset; size = place.size; shown = octets_at index place.shown_start place.shown_size }

-- both texts lie within so many octets
pub record LiesBelow (most : ℕ) (place : EntryPlace) : Type 0 where
  pub headword : place.headword_start + place.headword_size ≤ most
  pub shown : place.shown_start + place.shown_size ≤ most
