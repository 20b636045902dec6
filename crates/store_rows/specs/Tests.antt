-- What is tested of the items and their members, whatever is kept of the editions.
use Rattle.std.specs.Prelude.{ℕ, Bool, true, not, ◌&&◌, ◌==◌, nat_le, List, [], ◌∷◌, length}
use Rattle.std.specs.List.{list_all, list_any}
use Rattle.std.specs.Str.{is_utf8}
use Rattle.dict_text.specs.Names.{is_name, is_title}
use Rattle.dict_catalogue.specs.Items.{Item, regular, virtual, name_of, members_of, is_among, is_known, names_regular, edition_numbers}
use Rattle.dict_catalogue.specs.Tests.{has_member_count}

-- no text stands in the list twice; no number does
abbrev pub has_once : List (List ℕ) → Bool
has_once [] = true
has_once (text ∷ texts) = not (is_among texts text) && has_once texts

abbrev pub has_numbers_once : List ℕ → Bool
has_numbers_once [] = true
has_numbers_once (number ∷ numbers) = not (list_any (λ one. one == number) numbers) && has_numbers_once numbers

-- no two items have one name
abbrev pub has_names_once : {A : Type 0} → List (Item A) → Bool
has_names_once [] = true
has_names_once (item ∷ items) = not (is_known items (name_of item)) && has_names_once items

-- a lawful name, and for a virtual item a lawful title in UTF-8 and 1 to 64 members, each once
abbrev pub is_lawful_item : {A : Type 0} → Item A → Bool
is_lawful_item (regular name current former) = is_name name
is_lawful_item (virtual name title members) = is_name name && (is_utf8 title && is_title title) && has_member_count members && has_once members

-- each member is the name of a regular item
abbrev pub has_known_members : {A : Type 0} → List (Item A) → Item A → Bool
has_known_members items item = list_all (names_regular items) (members_of item)

-- from 1 to the count of installs
abbrev pub is_from_one_to : ℕ → ℕ → Bool
is_from_one_to installs number = nat_le 1 number && nat_le number installs

-- the numbers of editions are from 1 to the count of installs, each once
abbrev pub has_lawful_numbers : ℕ → List ℕ → Bool
has_lawful_numbers installs numbers = list_all (is_from_one_to installs) numbers && has_numbers_once numbers

abbrev pub has_lawful_items : {A : Type 0} → ℕ → List (Item A) → Bool
has_lawful_items installs items =
    nat_le (length items) 64 && list_all is_lawful_item items && has_names_once items && list_all (has_known_members items) items
    && has_lawful_numbers installs (edition_numbers items)
