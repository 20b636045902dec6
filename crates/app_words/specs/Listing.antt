-- The lines of a list of a catalogue's items.
use Rattle.std.specs.Prelude.{ℕ, ◌+◌, List, [], ◌∷◌, ◌++◌, Option, None, Some, codes, decimal}
use Rattle.std.specs.List.{flat_map}
use Rattle.dict_catalogue.specs.Items.{Item, Stored, regular, virtual}
use Rattle.dict_catalogue.specs.Views.{title_of}
use Rattle.dict_proto.specs.Text.{quoted}

-- the number of the former edition, or a hyphen where there is none
abbrev pub former_text : Option (Stored (List ℕ)) → List ℕ
former_text None = codes "-"
former_text (Some stored) = decimal stored.number

-- a name behind a comma
abbrev pub behind_comma : List ℕ → List ℕ
behind_comma name = codes "," ++ name

-- names, with a comma between two
abbrev pub names_with_commas : List (List ℕ) → List ℕ
names_with_commas [] = []
names_with_commas (name ∷ names) = name ++ flat_map behind_comma names

-- the name and the kind, and the current and the former edition or the members
abbrev pub kind_text : Item (List ℕ) → List ℕ
kind_text (regular name current former) = name ++ (codes " regular " ++ (decimal current.number ++ (codes " " ++ (former_text former ++ codes " "))))
kind_text (virtual name title members) = (name ++ codes " virtual ") ++ (names_with_commas members ++ codes " ")

-- the line of the item at a place, from 0
abbrev pub listed_item_line : ℕ → Item (List ℕ) → List ℕ
listed_item_line place item = (decimal place ++ codes " ") ++ (kind_text item ++ (quoted (title_of item) ++ codes "\n"))

-- the lines of items, of which the first stands at a place
abbrev pub listing_from : ℕ → List (Item (List ℕ)) → List ℕ
listing_from place [] = []
listing_from place (item ∷ items) = listed_item_line place item ++ listing_from (place + 1) items

abbrev pub listing_text : List (Item (List ℕ)) → List ℕ
listing_text items = listing_from 0 items
