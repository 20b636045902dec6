-- What an index holds that is made in part.
use Rattle.std.specs.Prelude.{◌≡◌, List, ℕ, ◌<◌, Option, IfSome, length, map, reverse, take}
use Rattle.store_search.specs.Entries.{Indexed, keys_of}
use Rattle.store_pieces.specs.Listing.{AreListed}
use Rattle.store_places.specs.Sorting.{MakesOrderOf}
use Rattle.store_pieces.specs.Wording.{AreWorded}
use Rattle.store_pieces.specs.declared.listing.Listing.{Listing}
use Rattle.store_places.specs.declared.sorting.Places.{Places}
use Rattle.store_pieces.specs.declared.wording.Wording.{Wording}

-- the entries, and how many steps are left at most
pub record Begun : Type 0 where
  pub entries : List Indexed
  pub left : ℕ

-- each part that is made is that of these entries
pub record AreIndexPartsOf (entries : List Indexed) (by_key : Option Places) (turned : List (List ℕ)) (by_reversed : Option Places) (words : Option Wording) (trigrams : Option Listing) : Type 0 where
  pub few : length entries < 4294967296
  pub keys : IfSome by_key (MakesOrderOf (keys_of entries))
  pub turned_keys : turned ≡ map reverse (take (length turned) (keys_of entries))
  pub reversed : IfSome by_reversed (MakesOrderOf (map reverse (keys_of entries)))
  pub words_placed : IfSome words (AreWorded (keys_of entries))
  pub grams_placed : IfSome trigrams (AreListed (keys_of entries))
