-- Places that are brought into the order of their texts.
use Rattle.std.specs.Prelude.{ℕ, List, length, take}
use Rattle.std.specs.List.{range_with_len}
use Rattle.std.specs.List.Sorted.{IsPermutation, IsSorted}
use Rattle.store_places.specs.Merging.{elements, AreWithin}
use Rattle.store_places.specs.Orders.{place_cmp, IsOrderOf}
use Rattle.store_places.specs.declared.sorting.ComparedPlaces.{ComparedPlaces}
use Rattle.store_places.specs.declared.sorting.Places.{Places}
use Rattle.store_places.specs.declared.sorting.Places.TheVariants.{Sorted, Compared, Made}
use Rattle.store_places.specs.declared.merging.Merging.{Merging}

-- all places of these texts, in some order
pub record ArePlacesOf (texts : List (List ℕ)) (m : Merging ℕ) : Type 0 where
  pub each : IsPermutation (range_with_len 0 (length texts)) (elements m)
  pub within : AreWithin m

-- all places of these texts, so many first ones of which are in order
pub record AreComparedOf (texts : List (List ℕ)) (begun : ComparedPlaces) : Type 0 where
  pub each : IsPermutation (range_with_len 0 (length texts)) begun.places.items
  pub rising : IsSorted (place_cmp texts) (take begun.compared begun.places.items)

-- what is made is the order of these texts
abbrev pub MakesOrderOf : List (List ℕ) → Places → Type 0
MakesOrderOf texts (Sorted sorting) = ArePlacesOf texts sorting.places
MakesOrderOf texts (Compared begun) = AreComparedOf texts begun
MakesOrderOf texts (Made places) = IsOrderOf texts places.items
