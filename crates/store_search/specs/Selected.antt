-- Which entries a query looks at, by their places.
use Rattle.std.specs.Prelude.{◌↔◌, ℕ, ◌<◌, List, length}
use Rattle.std.specs.List.{Contains}
use Rattle.std.specs.List.Sorted.{IsStrictlyIncreasing}
use Rattle.store_derived.specs.Search.{Rows, SelectsKey}
use Rattle.store_places.specs.Places.{key_at}
use Rattle.store_search.specs.Entries.{Indexed, keys_of}

-- the places of all entries that are selected, each once, rising
pub record AreSelected (rows : Rows) (entries : List Indexed) (places : List ℕ) : Type 0 where
  pub rising : IsStrictlyIncreasing places
  pub each : (place : ℕ) → Contains places place ↔ ((place < length entries) × SelectsKey rows (key_at (keys_of entries) place))
