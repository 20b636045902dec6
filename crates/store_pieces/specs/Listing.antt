-- What is made of the runs of three octets of keys, slice by slice.
use Rattle.std.specs.Prelude.{◌≡◌, ℕ, List, take}
use Rattle.std.specs.List.Sorted.{IsPermutation, IsSorted}
use Rattle.store_derived.specs.KeptGrams.{kept_grams}
use Rattle.store_pieces.specs.Grouped.{GoesOnGrouping}
use Rattle.store_places.specs.Merging.{elements, AreWithin}
use Rattle.store_pieces.specs.Pieces.{occurrences_from, AreOccurrences, ArePlaced}
use Rattle.store_pieces.specs.PlacedPieces.{grams_placed, gram_cmp}
use Rattle.store_pieces.specs.declared.listing.ComparedRuns.{ComparedRuns}
use Rattle.store_pieces.specs.declared.listing.GroupedRuns.{GroupedRuns}
use Rattle.store_pieces.specs.declared.listing.Listing.{Listing}
use Rattle.store_pieces.specs.declared.listing.Listing.TheVariants.{Taken, Sorted, Compared, Grouped, Made}
use Rattle.store_pieces.specs.declared.listing.TakenRuns.{TakenRuns}
use Rattle.store_places.specs.declared.merging.Merging.{Merging}
use Rattle.store_pieces.specs.declared.placed.PlacedGram.{PlacedGram}

-- those that stand in the first keys
abbrev pub AreRunsTaken : List (List ℕ) → TakenRuns → Type 0
AreRunsTaken keys taken = grams_placed taken.runs.items ≡ occurrences_from kept_grams 0 (take taken.place keys)

-- those of all keys, in some order
pub record AreSorted (keys : List (List ℕ)) (m : Merging PlacedGram) : Type 0 where
  pub each : IsPermutation (occurrences_from kept_grams 0 keys) (grams_placed (elements m))
  pub within : AreWithin m

-- those of all keys, so many first ones of which are in order
pub record AreRunsCompared (keys : List (List ℕ)) (begun : ComparedRuns) : Type 0 where
  pub each : IsPermutation (occurrences_from kept_grams 0 keys) (grams_placed begun.runs.items)
  pub rising : IsSorted gram_cmp (take begun.compared begun.runs.items)

-- all of them in order, of which the first are grouped
pub record AreGroupedOf (keys : List (List ℕ)) (grouped : GroupedRuns) : Type 0 where
  pub all : AreOccurrences kept_grams keys (grams_placed grouped.placed.items)
  pub first : GoesOnGrouping (grams_placed grouped.placed.items) grouped.at grouped.texts grouped.lists

-- what is made is of these keys
abbrev pub AreListed : List (List ℕ) → Listing → Type 0
AreListed keys (Taken taken) = AreRunsTaken keys taken
AreListed keys (Sorted merging) = AreSorted keys merging
AreListed keys (Compared begun) = AreRunsCompared keys begun
AreListed keys (Grouped grouped) = AreGroupedOf keys grouped
AreListed keys (Made pieces) = ArePlaced kept_grams keys pieces.texts pieces.lists
