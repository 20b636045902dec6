-- The items of a catalogue. An edition is kept with its number; what is kept of it, its content, is the whole
-- edition in a catalogue, and its title in a catalogue's summary.
use Rattle.std.specs.Prelude.{ℕ, Bool, true, false, ◌&&◌, List, [], ◌∷◌, Option, Some, None, is_some, option_map, bytes_eq, flat_map, map, if◌then◌else◌}
use Rattle.std.specs.List.{list_any}

-- an edition's number, and what is kept of it
pub record Stored (A : Type 0) : Type 0 where
  pub number : ℕ
  pub content : A

-- a regular item has a name, a current edition and perhaps a former one; a virtual item has a name, a title and
-- members, which are names
pub data Item (A : Type 0) : Type 0 where
  regular : List ℕ → Stored A → Option (Stored A) → Item A
  virtual : List ℕ → List ℕ → List (List ℕ) → Item A

abbrev pub name_of : {A : Type 0} → Item A → List ℕ
name_of (regular name current former) = name
name_of (virtual name title members) = name

abbrev pub is_regular : {A : Type 0} → Item A → Bool
is_regular (regular name current former) = true
is_regular (virtual name title members) = false

abbrev pub is_virtual : {A : Type 0} → Item A → Bool
is_virtual (regular name current former) = false
is_virtual (virtual name title members) = true

abbrev pub has_former : {A : Type 0} → Item A → Bool
has_former (regular name current former) = is_some former
has_former (virtual name title members) = false

-- a virtual item's members
abbrev pub members_of : {A : Type 0} → Item A → List (List ℕ)
members_of (regular name current former) = []
members_of (virtual name title members) = members

-- the editions of a regular item
abbrev pub editions_of : {A : Type 0} → Item A → List (Stored A)
editions_of (regular name current None) = current ∷ []
editions_of (regular name current (Some former)) = current ∷ former ∷ []
editions_of (virtual name title members) = []

-- the item has this name
abbrev pub is_named : {A : Type 0} → List ℕ → Item A → Bool
is_named name item = bytes_eq (name_of item) name

-- the name is among the names
abbrev pub is_among : List (List ℕ) → List ℕ → Bool
is_among names name = list_any (λ one. bytes_eq one name) names

-- the item lists the name as a member
abbrev pub lists : {A : Type 0} → List ℕ → Item A → Bool
lists name item = is_among (members_of item) name

-- some item has the name
abbrev pub is_known : {A : Type 0} → List (Item A) → List ℕ → Bool
is_known items name = list_any (is_named name) items

-- some regular item has the name
abbrev pub names_regular : {A : Type 0} → List (Item A) → List ℕ → Bool
names_regular items name = list_any (λ item. is_named name item && is_regular item) items

-- some virtual item has the name
abbrev pub names_virtual : {A : Type 0} → List (Item A) → List ℕ → Bool
names_virtual items name = list_any (λ item. is_named name item && is_virtual item) items

-- an item with the name has a former edition
abbrev pub names_former : {A : Type 0} → List (Item A) → List ℕ → Bool
names_former items name = list_any (λ item. is_named name item && has_former item) items

-- a virtual item lists the name
abbrev pub is_listed : {A : Type 0} → List (Item A) → List ℕ → Bool
is_listed items name = list_any (lists name) items

-- the number of a regular item's current edition
abbrev pub current_of : {A : Type 0} → Item A → Option ℕ
current_of (regular name current former) = Some current.number
current_of (virtual name title members) = None

-- the number of the current edition of the first item with the name
abbrev pub current_number : {A : Type 0} → List (Item A) → List ℕ → Option ℕ
current_number [] name = None
current_number (item ∷ items) name = if is_named name item then current_of item else current_number items name

-- the numbers of all editions
abbrev pub numbers_of : {A : Type 0} → Item A → List ℕ
numbers_of item = map (λ stored. stored.number) (editions_of item)

abbrev pub edition_numbers : {A : Type 0} → List (Item A) → List ℕ
edition_numbers items = flat_map numbers_of items

-- the same items with another content of their editions
abbrev pub stored_as : {A B : Type 0} → (A → B) → Stored A → Stored B
stored_as f stored = record { number = stored.number; content = f stored.content }

abbrev pub item_as : {A B : Type 0} → (A → B) → Item A → Item B
item_as f (regular name current former) = regular name (stored_as f current) (option_map (stored_as f) former)
item_as f (virtual name title members) = virtual name title members
