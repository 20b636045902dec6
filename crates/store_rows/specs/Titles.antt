-- Where the title of an edition goes that was read.
use Rattle.std.specs.Prelude.{ℕ, Bool, true, false, not, ◌&&◌, ◌||◌, ◌==◌, List, length, Some, None, option_map, bytes_eq, if◌then◌else◌}
use Rattle.dict_catalogue.specs.Items.{Stored, Item, regular, virtual}

-- an edition of this number that was not read
abbrev pub is_awaited : ℕ → Stored (List ℕ) → Bool
is_awaited number stored = stored.number == number && length stored.content == 0

-- the item has this name, and such an edition
abbrev pub awaits : List ℕ → ℕ → Item (List ℕ) → Bool
awaits owner number (regular name current None) = bytes_eq name owner && is_awaited number current
awaits owner number (regular name current (Some former)) = bytes_eq name owner && (is_awaited number current || is_awaited number former)
awaits owner number (virtual name title members) = false

-- the edition with this title
abbrev pub with_title : List ℕ → Stored (List ℕ) → Stored (List ℕ)
with_title title stored = record { number = stored.number; content = title }

-- the item with this title at its edition of this number
abbrev pub item_titled : ℕ → List ℕ → Item (List ℕ) → Item (List ℕ)
item_titled number title (regular name current former) =
    if current.number == number then regular name (with_title title current) former else regular name current (option_map (with_title title) former)
item_titled number title (virtual name old members) = virtual name old members

-- each edition of the item has a title
abbrev pub is_titled : Item (List ℕ) → Bool
is_titled (regular name current None) = not (length current.content == 0)
is_titled (regular name current (Some former)) = not (length current.content == 0) && not (length former.content == 0)
is_titled (virtual name title members) = true
