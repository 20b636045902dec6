-- Places that rise, from one of them on; places of all keys that have a text, and of others.
use Rattle.std.specs.Prelude.{◌≡◌, ℕ, Bool, true, false, not, nat_lt, nat_eq, List, [], ◌∷◌}
use Rattle.dict_match.specs.Matching.{StandsIn}
use Rattle.store_places.specs.Places.{places_where}

abbrev pub is_below : ℕ → ℕ → Bool
is_below place other = nat_lt other place

abbrev pub is_place_from : ℕ → ℕ → Bool
is_place_from place other = not (nat_lt other place)

-- the first of the places is this one
abbrev pub begins_by : ℕ → List ℕ → Bool
begins_by place [] = false
begins_by place (other ∷ others) = nat_eq other place

-- the places of keys that pass a test, which each key passes in which the query stands
pub record HasAllWith (query : List ℕ) (keys : List (List ℕ)) (places : List ℕ) : Type 0 where
  pub test : List ℕ → Bool
  pub are : places ≡ places_where test keys
  pub passes : (key : List ℕ) → StandsIn query key → test key ≡ true
