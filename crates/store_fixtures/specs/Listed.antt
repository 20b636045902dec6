-- What is written of a catalogue's items.
use Rattle.std.specs.Prelude.{ℕ, List, [], ◌++◌, Option, None, Some, codes, decimal}
use Rattle.std.specs.List.{flat_map}
use Rattle.dict_catalogue.specs.Items.{Item, Stored, regular, virtual, name_of}
use Rattle.dict_catalogue.specs.Views.{title_of}

abbrev pub member_text : List ℕ → List ℕ
member_text member = codes " +" ++ member

abbrev pub members_text : List (List ℕ) → List ℕ
members_text members = flat_map member_text members

abbrev pub former_listed : Option (Stored (List ℕ)) → List ℕ
former_listed None = []
former_listed (Some former) = codes "/" ++ decimal former.number

-- the numbers of the editions, or the members
abbrev pub content_text : Item (List ℕ) → List ℕ
content_text (regular name current former) = (codes " " ++ decimal current.number) ++ former_listed former
content_text (virtual name title members) = members_text members

-- name, title, and those
abbrev pub item_listed : Item (List ℕ) → List ℕ
item_listed item = name_of item ++ (codes " " ++ (title_of item ++ (content_text item ++ codes "; ")))

abbrev pub items_text : List (Item (List ℕ)) → List ℕ
items_text items = flat_map item_listed items
